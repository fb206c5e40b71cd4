use Rattle.std.proofs.Common.{◌<◌, length, ◌∙◌, length-set, refl, rules}
use Rattle.pld_place.proofs.Steps.{exchanged_at}
use Rattle.pld_place.proofs.board.exchange_in.Goals as goal

pub loop-k-preserved : goal.loop-k-preserved
loop-k-preserved c =
    let few : c.loop-k.k < length c.args.leaves.now.items = search rules in (
      length-set c.loop-k.leaves.items c.loop-k.k (record { 0 = c.traded.result }) ∙ c.loop-k.invariant.0,
      exchanged_at c.args.a c.args.b c.args.leaves.now.items c.loop-k.leaves.items c.loop-k.k _ c.traded.result c.index.result.now few refl c.loop-k.invariant.0 c.index.ensures c.traded.ensures c.loop-k.invariant.1,
    )
