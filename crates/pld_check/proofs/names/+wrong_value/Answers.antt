use Rattle.pld_check.proofs.Walks.{at_element, at_unary, at_binary, at_cast}
use Rattle.pld_check.proofs.names.+wrong_value.Goals as goal

pub returns-in-Element : goal.returns-in-Element
returns-in-Element t c = at_element c.args.op.now _ _ _ c.args.e.now _ _ c.in-Element.u c.in-Element.is c.get.ensures c.earlier.ensures c.misused-in-Element.ensures c.wrong_value.ensures

pub returns-in-Unary : goal.returns-in-Unary
returns-in-Unary t c = at_unary c.args.op.now _ c.args.e.now _ _ _ c.in-Unary.is c.get-in-Unary.ensures c.wrong_value-in-Unary.ensures

pub returns-in-Binary : goal.returns-in-Binary
returns-in-Binary t c = at_binary c.args.op.now _ _ _ c.args.e.now _ _ _ _ _ c.in-Binary.is c.get-in-Binary.ensures c.get-in-Binary-2.ensures c.earlier-in-Binary.ensures c.wrong_value-in-Binary.ensures c.wrong_value-in-Binary-2.ensures

pub returns-in-Cast : goal.returns-in-Cast
returns-in-Cast t c = at_cast c.args.op.now _ c.args.e.now _ _ _ c.in-Cast.is c.get-in-Cast.ensures c.wrong_value-in-Cast.ensures
