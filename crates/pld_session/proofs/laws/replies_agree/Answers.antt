use Rattle.std.specs.Prelude.{true}
use Rattle.pld_script.specs.Statements.{statements}
use Rattle.pld_session.specs.States.{at_first}
use Rattle.pld_session.proofs.Agreeing.{walks_agree}
use Rattle.pld_session.proofs.laws.replies_agree.Goals as goal

pub returns : goal.returns
returns c = λ rounds bytes records other a b. walks_agree c.plain_runs_over_the_tree_are_one.ensures (at_first rounds) (statements true bytes) records other a b
