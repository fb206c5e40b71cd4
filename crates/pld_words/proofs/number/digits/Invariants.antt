use Rattle.pld_words.proofs.Counting.{Counts}
use Rattle.pld_words.proofs.number.digits.Given as goal

abbrev pub invariant-loop-b : goal.invariant-loop-b
invariant-loop-b l = Counts l.word l.b-index l.value
