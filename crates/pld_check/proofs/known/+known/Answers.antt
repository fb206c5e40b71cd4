use Rattle.pld_ast.specs.Resolve.{declared_in, program_of}
use Rattle.pld_check.proofs.Parts.{at_if, at_while, at_next}
use Rattle.pld_check.proofs.known.+known.Goals as goal

pub is_known_statement-returns-in-If : goal.is_known_statement-returns-in-If
is_known_statement-returns-in-If t c = at_if (program_of c.args.op.now) (declared_in c.args.op.now) _ _ _ _ _ c.args.s.now _ _ _ _ _ c.in-If.is c.as_slice.ensures c.as_slice-in-If.ensures c.both-front.ensures c.both-in-If.ensures c.is_known-in-If.ensures c.are_known.ensures c.are_known-in-If.ensures

pub is_known_statement-returns-in-While : goal.is_known_statement-returns-in-While
is_known_statement-returns-in-While t c = at_while (program_of c.args.op.now) (declared_in c.args.op.now) _ _ _ c.args.s.now _ _ _ c.in-While.is c.as_slice-in-While.ensures c.both-in-While.ensures c.is_known-in-While.ensures c.are_known-in-While.ensures

pub are_known-loop-s-preserved : goal.are_known-loop-s-preserved
are_known-loop-s-preserved t c = record {
  so_far = at_next (program_of c.args.op.now) (declared_in c.args.op.now) _ _ _ c.args.body.now c.loop-s.s-index c.s-item.result c.loop-s-test.true c.s-item.is c.both-known.ensures c.loop-s.invariant.so_far c.is_known_statement.ensures;
}
