use Rattle.pld_ast.specs.Resolve.{declared_in}
use Rattle.rv_back.proofs.Parts.{on_ok, cast_code, unary_code, addressed, element_code, binary_code}
use Rattle.rv_back.proofs.emit.+put_value.Goals as goal

pub returns-in-Cast : goal.returns-in-Cast
returns-in-Cast t c = on_ok c.put_value-in-Cast.result (cast_code c.args.op.now c.args.code.now.items _ c.args.e.now c.in-Cast.a c.get-in-Cast.result.now c.in-Cast.field-0 c.in-Cast.is c.get-in-Cast.ensures) c.put_value-in-Cast.ensures

pub returns-in_ok-put_value-in-Unary : goal.returns-in_ok-put_value-in-Unary
returns-in_ok-put_value-in-Unary t c = on_ok c.put_op1.result (unary_code c.args.op.now c.args.code.now.items _ _ c.args.e.now c.in-Unary.a c.get-in-Unary.result.now c.in-Unary.o c.in-Unary.is c.get-in-Unary.ensures c.in_ok-put_value-in-Unary.ensures) c.put_op1.ensures

pub returns-in_ok-put_address-in-Element : goal.returns-in_ok-put_address-in-Element
returns-in_ok-put_address-in-Element t c =
    let op = c.args.op.now in
    on_ok c.put_load.result (element_code op c.args.code.now.items _ _ _ c.args.e.now c.in-Element.i c.get.result.now c.in-Element.u c.in-Element.is c.get.ensures c.in_ok-put_value-in-Element.ensures (addressed op _ _ c.as_slice-arrays.result.now c.in-Element.u c.place_of-in-Element.result c.as_slice-arrays.ensures c.place_of-in-Element.ensures.value c.in_ok-put_address-in-Element.ensures)) c.put_load.ensures

pub returns-in_ok-put_back-in-Binary : goal.returns-in_ok-put_back-in-Binary
returns-in_ok-put_back-in-Binary t c = on_ok c.put_op2.result (binary_code c.args.op.now c.args.code.now.items _ _ _ _ _ c.args.e.now c.in-Binary.a c.get-left.result.now c.in-Binary.b c.get-right.result.now c.in-Binary.o _ _ c.is_short-short.result c.in-Binary.is c.get-left.ensures c.get-right.ensures c.type_in.ensures c.type_in-in-Binary.ensures (c.is_short-short.ensures (declared_in c.args.op.now)) c.in_ok-put_value-in-Binary.ensures c.in_ok-put_aside-in-Binary.ensures c.in_ok-put_value-in-Binary-2.ensures c.in_ok-put_back-in-Binary.ensures) c.put_op2.ensures
