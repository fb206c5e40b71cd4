use Rattle.std.proofs.Common.{◌∙◌, arith}
use Rattle.fabric_run.specs.World.{start}
use Rattle.fabric_ends.proofs.Promised.{rounds_are, spent_all}
use Rattle.fabric_ends.proofs.rest.spent_makes_all_rounds.Goals as goal

pub returns : goal.returns
returns g c = record {
  spent = λ setup journal l e. spent_all setup journal l e;
  counted = λ setup journal. rounds_are setup (start setup) journal ∙ omega arith;
}
