use Rattle.std.proofs.Common.{[], ◌∷◌, ◌++◌, ap, ◌∙◌}
use Rattle.rv_back.proofs.Parts.{on_ok}
use Rattle.rv_back.proofs.Closing.{choice_code, loop_code, one_more}
use Rattle.rv_back.proofs.emit.+statements.Goals as goal

pub put_block-loop-s-preserved : goal.put_block-loop-s-preserved
put_block-loop-s-preserved t c = one_more c.args.op.now c.args.code.now.items _ _ c.args.body.now c.loop-s.s-index c.s-item.result c.loop-s-test.true c.s-item.is c.loop-s.invariant c.in_ok-put_statement.ensures

pub put_statement-returns-in_ok-put_block-in-If-2 : goal.put_statement-returns-in_ok-put_block-in-If-2
put_statement-returns-in_ok-put_block-in-If-2 t c =
    choice_code c.args.op.now c.args.code.now.items _ _ _ _ _ _ c.in-If.test c.in-If.yes c.in-If.no _ _ c.args.s.now _ _ c.in-If.is c.as_slice-in-If.ensures c.as_slice-in-If-2.ensures c.in_ok-put_value-in-If.ensures (c.len-tested.ensures ∙ c.put_value-in-If.new.code.ok.0) c.in_ok-put_open-in-If.ensures c.in_ok-put_block-in-If.ensures (c.len-first.ensures ∙ c.put_block.new.code.ok.0) (c.in_ok-put-in-If.ensures ∙ ap (λ x. c.put_block.new.code.items ++ x ∷ []) c.jump_forward.ensures) c.in_ok-put_block-in-If-2.ensures c.close_choice.ensures

pub put_statement-returns-in_ok-put_block-in-While : goal.put_statement-returns-in_ok-put_block-in-While
put_statement-returns-in_ok-put_block-in-While t c =
    on_ok c.close_loop.result (loop_code c.args.op.now c.args.code.now.items _ _ _ _ c.in-While.test c.in-While.body _ c.args.s.now _ _ c.in-While.is c.as_slice-in-While.ensures (c.len-start.ensures ∙ c.args.code.now.ok.0) c.in_ok-put_value-in-While.ensures (c.len-tested-in-While.ensures ∙ c.put_value-in-While.new.code.ok.0) c.in_ok-put_open-in-While.ensures c.in_ok-put_block-in-While.ensures) c.close_loop.ensures
