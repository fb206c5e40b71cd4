use Rattle.std.proofs.Common.{subst, arith}
use Rattle.rv_asm.specs.Assembly.{op_in}
use Rattle.rv_asm.proofs.Whole.{AllSpelled, all_spelled, lines_short, printed_short}
use Rattle.rv_asm.proofs.laws.texts_are_short.Goals as goal

pub returns-clause-line : goal.returns-clause-line
returns-clause-line c =
    let s = subst (λ ws. AllSpelled ws) c.as_slice.ensures.value (all_spelled c.as_slice.result.now c.all_spelled.ensures) in
    lines_short c.args.op.now.code.items s

pub returns-clause-text : goal.returns-clause-text
returns-clause-text c =
    let s = subst (λ ws. AllSpelled ws) c.as_slice.ensures.value (all_spelled c.as_slice.result.now c.all_spelled.ensures) in
    omega (arith, printed_short (op_in c.args.op.now) c.requires.ins c.requires.outs s, c.requires.few)
