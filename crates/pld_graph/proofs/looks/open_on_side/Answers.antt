use Rattle.std.proofs.Common.{◌≡◌, ◌+◌, ◌-◌, suc, sym, ◌∙◌, arith}
use Rattle.pld_graph.proofs.Opens.{linked_step}
use Rattle.pld_graph.proofs.looks.open_on_side.Goals as goal

-- the port is in a channel
pub loop-k-preserved : goal.loop-k-preserved
loop-k-preserved c =
    let below = c.loop-k-test.true in
    let more : c.args.count - c.loop-k.k ≡ suc (c.args.count - (c.loop-k.k + 1)) = omega (arith, below) in
    let step = linked_step c.args.channels.now c.args.name.now c.args.side c.loop-k.k _ _ more (sym c.is_linked.ensures ∙ c.if-not-is_linked.false) in
    sym step ∙ c.loop-k.invariant
