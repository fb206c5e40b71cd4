use Rattle.std.proofs.Common.{◌≡◌, drop}
use Rattle.pld_graph.specs.Design.{first_open}
use Rattle.pld_graph.proofs.looks.first_open.Given as goal

abbrev pub invariant-loop-k : goal.invariant-loop-k
invariant-loop-k l = first_open l.channels (drop l.k l.operators) ≡ first_open l.channels l.operators
