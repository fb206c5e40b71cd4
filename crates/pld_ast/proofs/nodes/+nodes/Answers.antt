use Rattle.std.proofs.Common.{◌≡◌, ◌≤◌, [], length, drop, ap, arith}
use Rattle.std.proofs.lemmas.List.{drop_all}
use Rattle.pld_ast.specs.Nodes.{action_nodes}
use Rattle.pld_ast.specs.Resolve.{block_in}
use Rattle.pld_ast.proofs.Counts.{at_assign, at_read, at_if, at_while}
use Rattle.pld_ast.proofs.nodes.+nodes.Goals as goal

pub block_nodes-returns : goal.block_nodes-returns
block_nodes-returns t c = λ d.
    let over : length c.args.block.now ≤ c.loop-s.s-index = omega arith in
    let none : drop c.loop-s.s-index c.args.block.now ≡ [] = drop_all _ _ over in
    omega (arith, ap (λ x. action_nodes (block_in d x)) none, c.loop-s.invariant.so_far d, c.loop-s.invariant.bound)

pub statement_nodes-returns-in-Assign : goal.statement_nodes-returns-in-Assign
statement_nodes-returns-in-Assign t c = λ d.
    omega (arith, at_assign d c.args.s.now c.in-Assign.t c.in-Assign.e c.in-Assign.is, c.target_nodes.ensures d, c.value_nodes.ensures d)

pub statement_nodes-returns-in-Read : goal.statement_nodes-returns-in-Read
statement_nodes-returns-in-Read t c = λ d.
    omega (arith, at_read d c.args.s.now c.in-Read.t c.in-Read.field-1 c.in-Read.is, c.target_nodes-in-Read.ensures d)

pub statement_nodes-returns-in-If : goal.statement_nodes-returns-in-If
statement_nodes-returns-in-If t c = λ d.
    omega (arith, at_if d c.args.s.now c.in-If.e c.in-If.a c.in-If.b c.as_slice.result.now c.as_slice-in-If.result.now c.in-If.is c.as_slice.ensures c.as_slice-in-If.ensures, c.value_nodes-in-If.ensures d, c.block_nodes.ensures d, c.block_nodes-in-If.ensures d)

pub statement_nodes-returns-in-While : goal.statement_nodes-returns-in-While
statement_nodes-returns-in-While t c = λ d.
    omega (arith, at_while d c.args.s.now c.in-While.e c.in-While.a c.as_slice-in-While.result.now c.in-While.is c.as_slice-in-While.ensures, c.value_nodes-in-While.ensures d, c.block_nodes-in-While.ensures d)
