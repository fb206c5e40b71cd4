use Rattle.std.proofs.Common.{◌≡◌, sym, subst}
use Rattle.pld_ast.specs.Resolve.{array_no, value_in, declared_in, read_to}
use Rattle.fsm_ir.specs.Building.{made_in, after, HasSpace}
use Rattle.fsm_ir.proofs.Puts.{on_ok, read_into_put}
use Rattle.fsm_ir.proofs.emit.put_input.Goals as goal

pub returns-in_ok-word-in-Element : goal.returns-in_ok-word-in-Element
returns-in_ok-word-in-Element c =
    let d = declared_in c.args.op.now in
    let old = made_in c.args.b.now in
    let new = made_in c.put_store.new.self in
    on_ok c.put_store.result (λ h. subst (λ to. HasSpace old (read_to d to c.args.port) → new ≡ after old (read_to d to c.args.port)) (sym c.in-Element.is) (read_into_put (array_no d c.in-Element.u.name) c.array_of.result c.args.port (value_in d c.in-Element.i) old (made_in c.put_value.new.b) (made_in c.put_taken.new.self) new c.in_ok-index-in-Element.index c.in_ok-word-in-Element.word c.array_of.ensures c.in_ok-index-in-Element.ensures c.in_ok-word-in-Element.ensures.0 c.in_ok-word-in-Element.ensures.1 h)) c.put_store.ensures
