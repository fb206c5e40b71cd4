use Rattle.std.proofs.Common.{◌≡◌, drop}
use Rattle.rv_asm.specs.Assembly.{instructions}
use Rattle.rv_asm.proofs.lines.has_instruction.Given as goal

abbrev pub invariant-loop-entry : goal.invariant-loop-entry
invariant-loop-entry l = instructions (drop l.entry-index l.lines) ≡ instructions l.lines
