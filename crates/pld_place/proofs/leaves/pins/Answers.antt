use Rattle.std.proofs.Common.{◌≡◌, ◌<◌, ◌∙◌, length, refl, arith, rules}
use Rattle.pld_graph.specs.Design.{operator_at, pin_in, blank}
use Rattle.pld_place.proofs.Pins.{own_pin_of}
use Rattle.pld_place.proofs.Steps.{item_added}
use Rattle.pld_place.proofs.leaves.pins.Goals as goal

pub loop-k-preserved : goal.loop-k-preserved
loop-k-preserved c =
    let below = c.loop-k-test.true in
    let few : c.loop-k.k < length c.args.g.now.operators = omega (arith, below, c.operators-k-end.ensures.value) in
    let told : c.pin_of.result ≡ pin_in (operator_at c.args.g.now.operators c.loop-k.k).name c.args.g.now = search rules in
    item_added (λ o. o.pin) c.args.g.now.operators c.loop-k.k (operator_at c.args.g.now.operators c.loop-k.k) blank c.loop-k.pins.items _ _ few refl c.loop-k.invariant
    (told ∙ own_pin_of c.args.g.now c.loop-k.k c.operators-k-end.ensures.sound few) c.in_ok-push.ensures.items
