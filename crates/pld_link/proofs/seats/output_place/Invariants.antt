use Rattle.pld_graph.specs.Design.{outputs}
use Rattle.pld_link.proofs.Places.{NoneBefore}
use Rattle.pld_link.proofs.seats.output_place.Given as goal

abbrev pub invariant-loop-k : goal.invariant-loop-k
invariant-loop-k l = NoneBefore (outputs l.g.channels) l.name l.k
