use Rattle.std.proofs.Common.{subst}
use Rattle.pld_ast.specs.Resolve.{array_no, value_in, declared_in, op2_of}
use Rattle.fsm_ir.specs.Building.{made_in, operation1, HasTemps, IsPut}
use Rattle.fsm_ir.proofs.Puts.{if_ok, element_is, unary_is, cast_is, binary_is, element_put, unary_put, cast_put, binary_put}
use Rattle.fsm_ir.proofs.emit.+put_value.Goals as goal

pub returns-in_ok-index-in-Element : goal.returns-in_ok-index-in-Element
returns-in_ok-index-in-Element t c =
    let d = declared_in c.args.op.now in
    let old = made_in c.args.b.now in
    let new = made_in c.put_load.new.self in
    let i = value_in d c.get.result.now in
    let is = element_is d c.args.e.now c.in-Element.i c.get.result.now c.in-Element.u c.in-Element.is c.get.ensures in
    if_ok c.put_load.result (λ r h. subst (λ v. HasTemps old v → IsPut v old new r) is (element_put (array_no d c.in-Element.u.name) c.array_of.result i old (made_in c.put_value.new.b) new c.in_ok-index-in-Element.index r c.array_of.ensures c.in_ok-index-in-Element.ensures h.0 h.1)) c.put_load.ensures

pub returns-in_ok-operand-in-Unary : goal.returns-in_ok-operand-in-Unary
returns-in_ok-operand-in-Unary t c =
    let d = declared_in c.args.op.now in
    let old = made_in c.args.b.now in
    let new = made_in c.put_unary.new.self in
    let a = value_in d c.get-in-Unary.result.now in
    let is = unary_is d c.args.e.now c.in-Unary.x c.get-in-Unary.result.now c.in-Unary.o c.in-Unary.is c.get-in-Unary.ensures in
    if_ok c.put_unary.result (λ r h. subst (λ v. HasTemps old v → IsPut v old new r) is (unary_put (operation1 c.in-Unary.o) a old (made_in c.put_value-in-Unary.new.b) new c.in_ok-operand-in-Unary.operand r c.in_ok-operand-in-Unary.ensures h.0 h.1)) c.put_unary.ensures

pub returns-in_ok-second-in-Binary : goal.returns-in_ok-second-in-Binary
returns-in_ok-second-in-Binary t c =
    let d = declared_in c.args.op.now in
    let old = made_in c.args.b.now in
    let new = made_in c.put_binary.new.self in
    let a = value_in d c.get-left.result.now in
    let b = value_in d c.get-right.result.now in
    let is = binary_is d c.args.e.now c.in-Binary.x c.get-left.result.now c.in-Binary.y c.get-right.result.now c.in-Binary.o c.type_in.result c.type_in-in-Binary.result c.in-Binary.is c.get-left.ensures c.get-right.ensures c.type_in.ensures c.type_in-in-Binary.ensures in
    if_ok c.put_binary.result (λ r h. subst (λ v. HasTemps old v → IsPut v old new r) is (binary_put (op2_of c.in-Binary.o c.type_in.result c.type_in-in-Binary.result) a b old (made_in c.put_value-in-Binary.new.b) (made_in c.put_value-in-Binary-2.new.b) new c.in_ok-first-in-Binary.first c.in_ok-second-in-Binary.second r c.in_ok-first-in-Binary.ensures c.in_ok-second-in-Binary.ensures h.0 h.1)) c.put_binary.ensures

pub returns-in-Cast : goal.returns-in-Cast
returns-in-Cast t c =
    let d = declared_in c.args.op.now in
    let old = made_in c.args.b.now in
    let new = made_in c.put_value-in-Cast.new.b in
    let is = cast_is d c.args.e.now c.in-Cast.x c.get-in-Cast.result.now c.in-Cast.field-0 c.in-Cast.is c.get-in-Cast.ensures in
    if_ok c.put_value-in-Cast.result (λ r h. subst (λ v. HasTemps old v → IsPut v old new r) is (cast_put (value_in d c.get-in-Cast.result.now) old new r h)) c.put_value-in-Cast.ensures
