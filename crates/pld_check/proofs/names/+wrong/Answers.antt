use Rattle.pld_check.proofs.Walks.{at_assign, at_read, at_write, at_if, at_while, at_next}
use Rattle.pld_check.proofs.names.+wrong.Goals as goal

pub wrong_block-loop-s-preserved : goal.wrong_block-loop-s-preserved
wrong_block-loop-s-preserved t c = record {
  so_far = at_next c.args.op.now _ _ _ c.args.body.now c.loop-s.s-index c.s-item.result c.loop-s-test.true c.s-item.is c.earlier-found.ensures c.loop-s.invariant.so_far c.wrong_statement.ensures;
}

pub wrong_statement-returns-in-Assign : goal.wrong_statement-returns-in-Assign
wrong_statement-returns-in-Assign t c = at_assign c.args.op.now _ _ _ c.args.s.now c.in-Assign.to c.in-Assign.e c.in-Assign.is c.earlier.ensures c.wrong_target.ensures c.wrong_value.ensures

pub wrong_statement-returns-in-Read : goal.wrong_statement-returns-in-Read
wrong_statement-returns-in-Read t c = at_read c.args.op.now _ _ _ c.args.s.now c.in-Read.to c.in-Read.port c.in-Read.is c.earlier-in-Read.ensures c.wrong_target-in-Read.ensures c.misused.ensures

pub wrong_statement-returns-in-If : goal.wrong_statement-returns-in-If
wrong_statement-returns-in-If t c = at_if c.args.op.now _ _ _ _ _ c.args.s.now _ _ _ _ _ c.in-If.is c.as_slice.ensures c.as_slice-in-If.ensures c.earlier-front.ensures c.earlier-in-If.ensures c.wrong_value-in-If.ensures c.wrong_block.ensures c.wrong_block-in-If.ensures

pub wrong_statement-returns-in-While : goal.wrong_statement-returns-in-While
wrong_statement-returns-in-While t c = at_while c.args.op.now _ _ _ c.args.s.now _ _ _ c.in-While.is c.as_slice-in-While.ensures c.earlier-in-While.ensures c.wrong_value-in-While.ensures c.wrong_block-in-While.ensures

pub wrong_statement-returns-in-Write : goal.wrong_statement-returns-in-Write
wrong_statement-returns-in-Write t c = at_write c.args.op.now _ _ _ c.args.s.now c.in-Write.port c.in-Write.e c.in-Write.is c.earlier-in-Write.ensures c.misused-in-Write.ensures c.wrong_value-in-Write.ensures
