use Rattle.pld_session.proofs.Resting.{rows_held}
use Rattle.pld_session.proofs.laws.leaves_hold_the_tables.Goals as goal

pub returns : goal.returns
returns c = rows_held c.rows_are_the_tables.ensures.held c.plans_are_designs.ensures.design
