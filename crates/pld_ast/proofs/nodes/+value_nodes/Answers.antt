use Rattle.std.proofs.Common.{arith}
use Rattle.pld_ast.proofs.Counts.{at_element, at_unary, at_binary, at_cast}
use Rattle.pld_ast.proofs.nodes.+value_nodes.Goals as goal

pub returns-in-Element : goal.returns-in-Element
returns-in-Element t c = λ d. omega (arith, at_element d c.args.e.now c.in-Element.a c.get.result.now c.in-Element.field-0 c.in-Element.is c.get.ensures, c.value_nodes.ensures d)

pub returns-in-Unary : goal.returns-in-Unary
returns-in-Unary t c = λ d. omega (arith, at_unary d c.args.e.now c.in-Unary.a c.get-in-Unary.result.now c.in-Unary.field-0 c.in-Unary.is c.get-in-Unary.ensures, c.value_nodes-in-Unary.ensures d)

pub returns-in-Binary : goal.returns-in-Binary
returns-in-Binary t c = λ d. omega (arith, at_binary d c.args.e.now c.in-Binary.a c.in-Binary.b c.get-in-Binary.result.now c.get-in-Binary-2.result.now c.in-Binary.field-0 c.in-Binary.is c.get-in-Binary.ensures c.get-in-Binary-2.ensures, c.value_nodes-in-Binary.ensures d, c.value_nodes-in-Binary-2.ensures d)

pub returns-in-Cast : goal.returns-in-Cast
returns-in-Cast t c = λ d. omega (arith, at_cast d c.args.e.now c.in-Cast.a c.get-in-Cast.result.now c.in-Cast.field-0 c.in-Cast.is c.get-in-Cast.ensures, c.value_nodes-in-Cast.ensures d)
