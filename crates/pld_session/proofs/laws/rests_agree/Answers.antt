use Rattle.pld_session.proofs.Resting.{rests_agree}
use Rattle.pld_session.proofs.laws.rests_agree.Goals as goal

pub returns : goal.returns
returns c = rests_agree c.plans_are_designs.ensures.design c.plans_are_alike.ensures c.designs_over_the_tree.ensures.agree c.replies_agree.ensures
