use Rattle.std.proofs.Common.{◌≡◌, ◌-◌}
use Rattle.pld_place.specs.Placing.{movable_among}
use Rattle.pld_place.proofs.leaves.movable.Given as goal

abbrev pub invariant-loop-leaf : goal.invariant-loop-leaf
invariant-loop-leaf l = l.leaves.items ≡ movable_among l.pinned (l.leaf - 1)
