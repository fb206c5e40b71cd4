use Rattle.pld_graph.specs.Design.{inputs}
use Rattle.pld_link.proofs.Places.{NoneBefore}
use Rattle.pld_link.proofs.seats.input_place.Given as goal

abbrev pub invariant-loop-k : goal.invariant-loop-k
invariant-loop-k l = NoneBefore (inputs l.g.channels) l.name l.k
