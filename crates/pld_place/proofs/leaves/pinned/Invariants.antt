use Rattle.std.proofs.Common.{◌≡◌, take}
use Rattle.pld_place.specs.Placing.{pinned_leaves}
use Rattle.pld_place.proofs.leaves.pinned.Given as goal

abbrev pub invariant-loop-pin : goal.invariant-loop-pin
invariant-loop-pin l = l.leaves.items ≡ pinned_leaves (take l.pin-index l.pins)
