use Rattle.pld_check.proofs.Walks.{at_indexed}
use Rattle.pld_check.proofs.names.wrong_target.Goals as goal

pub returns-in-Element : goal.returns-in-Element
returns-in-Element c = at_indexed c.args.op.now _ _ _ c.args.to.now c.in-Element.u c.in-Element.i c.in-Element.is c.earlier.ensures c.misused-in-Element.ensures c.wrong_value.ensures
