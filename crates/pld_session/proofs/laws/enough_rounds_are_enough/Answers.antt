use Rattle.pld_session.proofs.Resting.{enough_is}
use Rattle.pld_session.proofs.laws.enough_rounds_are_enough.Goals as goal

pub returns : goal.returns
returns c = enough_is c.plans_are_designs.ensures.design c.plans_are_designs.ensures.network c.plans_are_designs.ensures.pages c.designs_over_the_tree.ensures.early
