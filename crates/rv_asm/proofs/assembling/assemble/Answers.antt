use Rattle.std.proofs.Common.{arith}
use Rattle.rv_asm.proofs.Bounds.{form_told, behind_head}
use Rattle.rv_asm.proofs.assembling.assemble.Goals as goal

pub returns-in-Ok-clause-in_range : goal.returns-in-Ok-clause-in_range
returns-in-Ok-clause-in_range c =
    form_told c.args.text.now c.op_behind.result _ (behind_head c.args.text.now _ c.op_behind.result (λ l. omega (arith, l, c.if-text-gt-MOST_BYTES.false)) c.in-Ok.ensures.value c.op_behind.ensures.value) c.op_behind.ensures.words
