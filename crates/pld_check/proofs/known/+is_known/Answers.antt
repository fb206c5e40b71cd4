use Rattle.pld_ast.specs.Resolve.{declared_in, program_of}
use Rattle.pld_check.proofs.Parts.{at_element, at_unary, at_binary, at_cast}
use Rattle.pld_check.proofs.known.+is_known.Goals as goal

pub returns-in-Element : goal.returns-in-Element
returns-in-Element t c = at_element (program_of c.args.op.now) (declared_in c.args.op.now) _ _ _ c.args.e.now _ _ c.in-Element.u c.in-Element.is c.get.ensures c.both.ensures c.is_array.ensures c.is_known.ensures

pub returns-in-Unary : goal.returns-in-Unary
returns-in-Unary t c = at_unary (program_of c.args.op.now) (declared_in c.args.op.now) _ c.args.e.now _ _ _ c.in-Unary.is c.get-in-Unary.ensures c.is_known-in-Unary.ensures

pub returns-in-Binary : goal.returns-in-Binary
returns-in-Binary t c = at_binary (program_of c.args.op.now) (declared_in c.args.op.now) _ _ _ c.args.e.now _ _ _ _ _ c.in-Binary.is c.get-in-Binary.ensures c.get-in-Binary-2.ensures c.both-in-Binary.ensures c.is_known-in-Binary.ensures c.is_known-in-Binary-2.ensures

pub returns-in-Cast : goal.returns-in-Cast
returns-in-Cast t c = at_cast (program_of c.args.op.now) (declared_in c.args.op.now) _ c.args.e.now _ _ _ c.in-Cast.is c.get-in-Cast.ensures c.is_known-in-Cast.ensures
