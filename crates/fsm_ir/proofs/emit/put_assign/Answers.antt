use Rattle.std.proofs.Common.{◌≡◌, sym, subst}
use Rattle.pld_ast.specs.Resolve.{scalar_no, array_no, value_in, declared_in, assigned}
use Rattle.fsm_ir.specs.Building.{made_in, after, HasSpace}
use Rattle.fsm_ir.proofs.Puts.{on_ok, assign_put, store_put}
use Rattle.fsm_ir.proofs.emit.put_assign.Goals as goal

pub returns-in_ok-value-in-Scalar : goal.returns-in_ok-value-in-Scalar
returns-in_ok-value-in-Scalar c =
    let d = declared_in c.args.op.now in
    let old = made_in c.args.b.now in
    let new = made_in c.put_move.new.self in
    on_ok c.put_move.result (λ h. subst (λ to. HasSpace old (assigned d to c.args.e.now) → new ≡ after old (assigned d to c.args.e.now)) (sym c.in-Scalar.is) (assign_put (scalar_no d c.in-Scalar.u.name) c.register_of.result (value_in d c.args.e.now) old (made_in c.put_value.new.b) new c.in_ok-value-in-Scalar.value c.register_of.ensures c.in_ok-value-in-Scalar.ensures h)) c.put_move.ensures

pub returns-in_ok-value-in-Element : goal.returns-in_ok-value-in-Element
returns-in_ok-value-in-Element c =
    let d = declared_in c.args.op.now in
    let old = made_in c.args.b.now in
    let new = made_in c.put_store.new.self in
    on_ok c.put_store.result (λ h. subst (λ to. HasSpace old (assigned d to c.args.e.now) → new ≡ after old (assigned d to c.args.e.now)) (sym c.in-Element.is) (store_put (array_no d c.in-Element.u.name) c.array_of.result (value_in d c.in-Element.i) (value_in d c.args.e.now) old (made_in c.put_value-in-Element.new.b) (made_in c.put_value-in-Element-2.new.b) new c.in_ok-index-in-Element.index c.in_ok-value-in-Element.value c.array_of.ensures c.in_ok-index-in-Element.ensures c.in_ok-value-in-Element.ensures h)) c.put_store.ensures
