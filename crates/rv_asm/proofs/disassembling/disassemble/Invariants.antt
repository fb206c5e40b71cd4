use Rattle.std.proofs.Common.{◌≡◌, ◌++◌, drop, string_bytes}
use Rattle.std.specs.List.{flat_map}
use Rattle.rv_asm.specs.Assembly.{op_in}
use Rattle.rv_asm.specs.Printing.{printed, word_line}
use Rattle.rv_asm.proofs.disassembling.disassemble.Given as goal

abbrev pub invariant-loop-word : goal.invariant-loop-word
invariant-loop-word l = string_bytes l.text ++ flat_map word_line (drop l.word-index l.op.code.items) ≡ printed (op_in l.op)
