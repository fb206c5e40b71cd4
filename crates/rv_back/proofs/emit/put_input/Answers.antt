use Rattle.rv_back.proofs.Parts.{on_ok, addressed, read_into_code}
use Rattle.rv_back.proofs.emit.put_input.Goals as goal

pub returns-in_ok-put_address-in-Element : goal.returns-in_ok-put_address-in-Element
returns-in_ok-put_address-in-Element c =
    let op = c.args.op.now in
    on_ok c.put_read_at.result (read_into_code op c.args.code.now.items _ _ _ c.args.to.now c.in-Element.u c.in-Element.i c.args.port c.in-Element.is c.in_ok-put_value-in-Element.ensures (addressed op _ _ c.as_slice-arrays.result.now c.in-Element.u c.place_of-in-Element.result c.as_slice-arrays.ensures c.place_of-in-Element.ensures.value c.in_ok-put_address-in-Element.ensures)) c.put_read_at.ensures
