use Rattle.std.proofs.Common.{◌≡◌, map, take}
use Rattle.pld_place.proofs.leaves.pins.Given as goal

abbrev pub invariant-loop-k : goal.invariant-loop-k
invariant-loop-k l = l.pins.items ≡ map (λ o. o.pin) (take l.k l.g.operators)
