use Rattle.std.proofs.Common.{◌≡◌, map, take}
use Rattle.pld_place.specs.Placing.{ends_of as ends_in}
use Rattle.pld_place.proofs.ends.ends_of.Given as goal

abbrev pub invariant-loop-k : goal.invariant-loop-k
invariant-loop-k l = l.channels.items ≡ map (ends_in l.g) (take l.k l.g.channels)
