use Rattle.fabric_run.specs.Trees.{tree_setup}
use Rattle.fabric_ends.proofs.PlainRuns.{plain_one}
use Rattle.fabric_tree.proofs.plain_runs_over_the_tree_are_one.Goals as goal

pub returns : goal.returns
returns c = λ plan journal other p o q r. plain_one (tree_setup plan) journal other p o q r
