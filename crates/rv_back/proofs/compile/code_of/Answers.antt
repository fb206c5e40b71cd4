use Rattle.rv_back.proofs.Whole.{has_space, whole_code}
use Rattle.rv_back.proofs.compile.code_of.Goals as goal

pub returns : goal.returns
returns c =
    let space = has_space c.args.op.now _ _ c.as_slice.result.now c.requires c.new-code.ensures.items c.in_ok-put_prologue.ensures c.as_slice.ensures in
    whole_code c.args.op.now _ _ _ _ c.as_slice.result.now c.new-code.ensures.items c.in_ok-put_prologue.ensures c.as_slice.ensures (c.in_ok-put_block.ensures space) c.in_ok-put_end.ensures
