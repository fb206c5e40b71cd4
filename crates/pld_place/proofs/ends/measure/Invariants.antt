use Rattle.std.proofs.Common.{◌≡◌, ◌*◌, ◌≤◌, take}
use Rattle.pld_place.specs.Exchanges.{total, exchanged}
use Rattle.pld_place.specs.Placing.{numbers}
use Rattle.pld_place.proofs.ends.measure.Given as goal

abbrev pub invariant-loop-channel : goal.invariant-loop-channel
invariant-loop-channel l =
    (l.before ≡ total (take l.channel-index l.channels) (numbers l.leaves))
    × (l.after ≡ total (take l.channel-index l.channels) (exchanged l.a l.b (numbers l.leaves)))
    × (l.before ≤ 12 * l.channel-index) × (l.after ≤ 12 * l.channel-index)
