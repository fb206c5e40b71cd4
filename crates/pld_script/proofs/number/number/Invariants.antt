use Rattle.pld_script.proofs.Counting.{Counts}
use Rattle.pld_script.proofs.number.number.Given as goal

abbrev pub invariant-loop-b : goal.invariant-loop-b
invariant-loop-b l = Counts l.base l.digits l.b-index l.value
