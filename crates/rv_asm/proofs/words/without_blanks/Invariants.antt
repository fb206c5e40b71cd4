use Rattle.std.proofs.Common.{◌≡◌, length}
use Rattle.rv_asm.specs.Words.{words_of}
use Rattle.rv_asm.proofs.words.without_blanks.Given as goal

abbrev pub invariant-loop-b : goal.invariant-loop-b
invariant-loop-b l = words_of l.rest ≡ words_of l.line

abbrev pub decreases-loop-b : goal.decreases-loop-b
decreases-loop-b l = length l.rest
