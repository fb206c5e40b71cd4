use Rattle.std.proofs.Common.{◌≡◌, ◌+◌, ◌-◌}
use Rattle.pld_place.specs.Placing.{least_free}
use Rattle.pld_place.proofs.leaves.least_free.Given as goal

abbrev pub invariant-loop-leaf : goal.invariant-loop-leaf
invariant-loop-leaf l = least_free l.taken l.leaf (l.last + 1 - l.leaf) ≡ least_free l.taken 1 l.last
