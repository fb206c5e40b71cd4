use Rattle.std.proofs.Common.{◌≡◌, ◌+◌, drop}
use Rattle.std.specs.List.{position_or_len}
use Rattle.rv_asm.specs.Words.{is_apart}
use Rattle.rv_asm.proofs.words.word_length.Given as goal

abbrev pub invariant-loop-i : goal.invariant-loop-i
invariant-loop-i l = l.i + position_or_len is_apart (drop l.i l.line) ≡ position_or_len is_apart l.line
