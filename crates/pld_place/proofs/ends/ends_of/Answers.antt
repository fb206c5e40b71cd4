use Rattle.std.proofs.Common.{◌<◌, length, arith}
use Rattle.std.proofs.lemmas.Option.{get_or_from_slice_get}
use Rattle.pld_place.specs.Placing.{ends_of}
use Rattle.pld_place.proofs.Steps.{item_added}
use Rattle.pld_place.proofs.ends.ends_of.Goals as goal

pub loop-k-preserved : goal.loop-k-preserved
loop-k-preserved c =
    let below = c.loop-k-test.true in
    let few : c.loop-k.k < length c.args.g.now.channels = omega (arith, below, c.channels-k-end.ensures.value) in
    item_added (ends_of c.args.g.now) c.args.g.now.channels c.loop-k.k c.channel-channel.result c.channel-channel.result c.loop-k.channels.items _ _ few
    (get_or_from_slice_get c.args.g.now.channels c.loop-k.k c.channel-channel.result c.channel-channel.result c.channel-channel.ensures) c.loop-k.invariant
    (λ i. record { from = c.from_place-from.ensures i; to = c.to_place-to.ensures i }) c.in_ok-push.ensures.items
