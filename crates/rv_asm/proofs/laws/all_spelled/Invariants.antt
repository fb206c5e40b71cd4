use Rattle.std.proofs.Common.{ℕ, ◌<◌, get_or}
use Rattle.rv_asm.specs.Printing.{IsSpelled}
use Rattle.rv_asm.proofs.laws.all_spelled.Given as goal

abbrev pub invariant-loop-word : goal.invariant-loop-word
invariant-loop-word l = (k : ℕ) → k < l.word-index → IsSpelled (get_or l.words k 0)
