use Rattle.std.proofs.Common.{◌≡◌, take}
use Rattle.pld_graph.specs.Design.{outputs}
use Rattle.pld_session.proofs.runs.output_names.Given as goal

abbrev pub invariant-loop-k : goal.invariant-loop-k
invariant-loop-k l = l.names.items ≡ take l.k (outputs l.graph.channels)
