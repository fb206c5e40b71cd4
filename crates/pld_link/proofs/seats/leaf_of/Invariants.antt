use Rattle.pld_link.specs.Seats.{operator_names}
use Rattle.pld_link.proofs.Places.{NoneBefore}
use Rattle.pld_link.proofs.seats.leaf_of.Given as goal

abbrev pub invariant-loop-k : goal.invariant-loop-k
invariant-loop-k l = NoneBefore (operator_names l.g) l.name l.k
