use Rattle.std.proofs.Common.{◌≡◌, take}
use Rattle.pld_graph.specs.Slots.{live}
use Rattle.pld_graph.proofs.slots.Slots.closed_up.Given as goal

abbrev pub invariant-loop-i : goal.invariant-loop-i
invariant-loop-i l = live l.slots ≡ live (take l.i l.self)
