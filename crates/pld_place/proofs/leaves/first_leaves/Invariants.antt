use Rattle.std.proofs.Common.{◌≡◌, ◌++◌, drop}
use Rattle.pld_place.specs.Placing.{numbers, settled, first_leaves}
use Rattle.pld_place.proofs.leaves.first_leaves.Given as goal

abbrev pub invariant-loop-pin : goal.invariant-loop-pin
invariant-loop-pin l = numbers l.leaves.items ++ settled l.taken.items (drop l.pin-index l.pins) ≡ first_leaves l.pins
