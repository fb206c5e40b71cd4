use Rattle.std.proofs.Common.{◌≡◌}
use Rattle.pld_graph.specs.Parts.{stands_at, is_of}
use Rattle.pld_graph.specs.Slots.{live, cleared}
use Rattle.pld_graph.specs.Masks.{AreCounted}
use Rattle.pld_graph.proofs.channels.empty_of.Given as goal

abbrev pub invariant-loop-i : goal.invariant-loop-i
invariant-loop-i l = (l.slots ≡ cleared (stands_at (is_of l.name)) l.i l.fn.slots) × AreCounted (live l.slots) l.tally
