use Rattle.std.proofs.Common.{◌≡◌, ◌+◌, ◌-◌, ◌^◌, ap, ◌∙◌, sym, subst}
use Rattle.std.specs.Prelude.{min}
use Rattle.pld_base.specs.declared.event.Side.TheVariants.{Out}
use Rattle.pld_ast.specs.Resolve.{declared_in, value_in, action_in, block_in, place_in, ports_at}
use Rattle.fsm_ir.specs.Building.{made_in, after, HasSpace}
use Rattle.fsm_ir.proofs.Puts.{on_ok, write_put}
use Rattle.fsm_ir.proofs.Joins.{one_more, choose_put, choice_is, repeat_put, loop_is}
use Rattle.fsm_ir.proofs.emit.+statements.Goals as goal

pub put_block-loop-s-preserved : goal.put_block-loop-s-preserved
put_block-loop-s-preserved t c = one_more (declared_in c.args.op.now) (made_in c.args.b.now) _ _ c.args.body.now c.loop-s.s-index c.s-item.result c.loop-s-test.true c.s-item.is c.loop-s.invariant c.in_ok-put_statement.ensures

pub put_statement-returns-in_ok-value-in-Write : goal.put_statement-returns-in_ok-value-in-Write
put_statement-returns-in_ok-value-in-Write t c =
    let d = declared_in c.args.op.now in
    let old = made_in c.args.b.now in
    let new = made_in c.put_write.new.self in
    let there = c.port_place-place-in-Write.ensures.value ∙ ap (λ x. place_in (ports_at Out x) c.in-Write.port.name) c.as_slice-in-Write.ensures in
    on_ok c.put_write.result (λ h. subst (λ s. HasSpace old (action_in d s) → new ≡ after old (action_in d s)) (sym c.in-Write.is) (write_put (place_in d.outs c.in-Write.port.name) c.port_place-place-in-Write.result (value_in d c.in-Write.e) old (made_in c.put_value.new.b) new c.in_ok-value-in-Write.value there c.in_ok-value-in-Write.ensures h)) c.put_write.ensures

pub put_statement-returns-in_ok-end-in-If-3 : goal.put_statement-returns-in_ok-end-in-If-3
put_statement-returns-in_ok-end-in-If-3 t c =
    let d = declared_in c.args.op.now in
    let old = made_in c.args.b.now in
    let new = made_in c.aim-in-If.new.self in
    subst (λ a. HasSpace old a → new ≡ after old a) (choice_is d c.args.s.now c.in-If.test c.in-If.yes c.in-If.no c.as_slice-in-If.result.now c.as_slice-in-If-2.result.now c.in-If.is c.as_slice-in-If.ensures c.as_slice-in-If-2.ensures)
    (choose_put (value_in d c.in-If.test) (block_in d c.as_slice-in-If.result.now) (block_in d c.as_slice-in-If-2.result.now) old (made_in c.put_value-in-If.new.b) (made_in c.end.new.self) (made_in c.put_block.new.b) (made_in c.end-in-If.new.self) (made_in c.put_block-in-If.new.b) (made_in c.end-in-If-2.new.self) (made_in c.aim.new.self) new c.in_ok-register-in-If.register c.number-tested.result c.number-first.result c.number-passed.result c.number-second.result c.saturating_add-behind.result c.in_ok-register-in-If.ensures c.number-tested.ensures c.in_ok-end-in-If.ensures c.number-first.ensures c.in_ok-put_block-in-If.ensures c.number-passed.ensures c.in_ok-end-in-If-2.ensures c.number-second.ensures c.in_ok-put_block-in-If-2.ensures (c.saturating_add-behind.ensures ∙ ap (λ n. min (n + 1) (2 ^ 32 - 1)) c.number.ensures) c.in_ok-end-in-If-3.ensures c.aim.ensures c.aim-in-If.ensures)

pub put_statement-returns-in_ok-end-in-While-3 : goal.put_statement-returns-in_ok-end-in-While-3
put_statement-returns-in_ok-end-in-While-3 t c =
    let d = declared_in c.args.op.now in
    let old = made_in c.args.b.now in
    let new = made_in c.aim-in-While.new.self in
    subst (λ a. HasSpace old a → new ≡ after old a) (loop_is d c.args.s.now c.in-While.test c.in-While.body c.as_slice-in-While.result.now c.in-While.is c.as_slice-in-While.ensures)
    (repeat_put (value_in d c.in-While.test) (block_in d c.as_slice-in-While.result.now) old (made_in c.end-in-While.new.self) (made_in c.put_value-in-While.new.b) (made_in c.end-in-While-2.new.self) (made_in c.put_block-in-While.new.b) (made_in c.end-in-While-3.new.self) new c.in_ok-register-in-While.register c.saturating_add-start.result c.number-first-in-While.result c.number-in-While-2.result (c.saturating_add-start.ensures ∙ ap (λ n. min (n + 1) (2 ^ 32 - 1)) c.number-in-While.ensures) c.in_ok-end-in-While.ensures c.in_ok-register-in-While.ensures c.in_ok-end-in-While-2.ensures c.number-first-in-While.ensures c.in_ok-put_block-in-While.ensures c.in_ok-end-in-While-3.ensures c.number-in-While-2.ensures c.aim-in-While.ensures)
