use Rattle.pld_session.proofs.Resting.{runs_promise}
use Rattle.pld_session.proofs.laws.runs_keep_their_promise.Goals as goal

pub returns : goal.returns
returns c = runs_promise c.plans_are_designs.ensures.design c.plans_are_designs.ensures.network c.designs_over_the_tree.ensures.promise
