use Rattle.std.proofs.Common.{◌≡◌, take}
use Rattle.pld_place.specs.Placing.{numbers}
use Rattle.pld_place.specs.Touching.{touching_at}
use Rattle.pld_place.proofs.board.touching.Given as goal

abbrev pub invariant-loop-channel : goal.invariant-loop-channel
invariant-loop-channel l = l.found.items ≡ touching_at (take l.channel-index l.channels) (numbers l.leaves) l.leaf
