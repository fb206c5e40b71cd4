use Rattle.std.proofs.Common.{◌≡◌, ◌-◌}
use Rattle.pld_graph.specs.Design.{open_among}
use Rattle.pld_graph.proofs.looks.open_on_side.Given as goal

abbrev pub invariant-loop-k : goal.invariant-loop-k
invariant-loop-k l = open_among l.channels l.name l.side l.k (l.count - l.k) ≡ open_among l.channels l.name l.side 0 l.count
