use Rattle.std.proofs.Common.{◌≡◌, ℕ, refl, arith, subst}
use Rattle.net_tree.proofs.Places.{pow_small}
use Rattle.leaf_net.specs.Net.{NetState, net_size}
use Rattle.leaf_net.specs.Passing.{before_round, HavePassed}
use Rattle.leaf_net.proofs.Passes.{pass_first, pass_next, in_size, turn_free, turn_arrives}
use Rattle.leaf_net.proofs.pass.pass.Goals as goal

pub loop-leaf-init : goal.loop-leaf-init
loop-leaf-init c = pass_first (before_round c.args.way.now c.args.leaves.now c.args.entries.now c.args.round.0) c.args.offers.now _ c.told-offers c.requires.none refl refl refl

pub arrival-came-requires : goal.arrival-came-requires
arrival-came-requires c =
    let n : NetState = before_round c.args.way.now c.args.leaves.now c.args.entries.now c.args.round.0 in
    omega (arith, in_size n c.loop-leaf.leaf c.len-leaf-end.result c.requires.can c.loop-leaf-test.true c.len-leaf-end.ensures, pow_small c.args.way.now.depth c.requires.can.most)

pub turn-offer-requires-clause-leaf : goal.turn-offer-requires-clause-leaf
turn-offer-requires-clause-leaf c = omega (arith, c.loop-leaf.invariant.many, c.loop-leaf-test.true, c.len-leaf-end.ensures)

pub turn-offer-requires-clause-free : goal.turn-offer-requires-clause-free
turn-offer-requires-clause-free c =
    let n : NetState = before_round c.args.way.now c.args.leaves.now c.args.entries.now c.args.round.0 in
    turn_free n c.loop-leaf.way c.loop-leaf.leaves c.loop-leaf.offers c.loop-leaf.tally c.loop-leaf.leaf c.requires.can c.loop-leaf.invariant (in_size n c.loop-leaf.leaf c.len-leaf-end.result c.requires.can c.loop-leaf-test.true c.len-leaf-end.ensures)

pub turn-offer-requires-clause-arrives : goal.turn-offer-requires-clause-arrives
turn-offer-requires-clause-arrives c =
    let n : NetState = before_round c.args.way.now c.args.leaves.now c.args.entries.now c.args.round.0 in
    turn_arrives n c.loop-leaf.way c.loop-leaf.leaves c.loop-leaf.offers c.loop-leaf.tally c.loop-leaf.leaf c.arrival-came.result c.requires.can c.loop-leaf.invariant (in_size n c.loop-leaf.leaf c.len-leaf-end.result c.requires.can c.loop-leaf-test.true c.len-leaf-end.ensures) c.arrival-came.ensures.packet

pub add-requires-clause-offered : goal.add-requires-clause-offered
add-requires-clause-offered c =
    let n : NetState = before_round c.args.way.now c.args.leaves.now c.args.entries.now c.args.round.0 in
    omega (arith, c.loop-leaf.invariant.told.few.0, in_size n c.loop-leaf.leaf c.len-leaf-end.result c.requires.can c.loop-leaf-test.true c.len-leaf-end.ensures, pow_small c.args.way.now.depth c.requires.can.most)

pub add-requires-clause-configs : goal.add-requires-clause-configs
add-requires-clause-configs c =
    let n : NetState = before_round c.args.way.now c.args.leaves.now c.args.entries.now c.args.round.0 in
    omega (arith, c.loop-leaf.invariant.told.few.1, in_size n c.loop-leaf.leaf c.len-leaf-end.result c.requires.can c.loop-leaf-test.true c.len-leaf-end.ensures, pow_small c.args.way.now.depth c.requires.can.most)

pub add-requires-clause-injected : goal.add-requires-clause-injected
add-requires-clause-injected c =
    let n : NetState = before_round c.args.way.now c.args.leaves.now c.args.entries.now c.args.round.0 in
    omega (arith, c.loop-leaf.invariant.told.few.2, in_size n c.loop-leaf.leaf c.len-leaf-end.result c.requires.can c.loop-leaf-test.true c.len-leaf-end.ensures, pow_small c.args.way.now.depth c.requires.can.most)

pub bounds-offers-leaf : goal.bounds-offers-leaf
bounds-offers-leaf c =
    let n : NetState = before_round c.args.way.now c.args.leaves.now c.args.entries.now c.args.round.0 in
    omega (arith, in_size n c.loop-leaf.leaf c.len-leaf-end.result c.requires.can c.loop-leaf-test.true c.len-leaf-end.ensures, pow_small c.args.way.now.depth c.requires.can.most)

pub loop-leaf-preserved : goal.loop-leaf-preserved
loop-leaf-preserved c =
    let n : NetState = before_round c.args.way.now c.args.leaves.now c.args.entries.now c.args.round.0 in
    pass_next n c.loop-leaf.way c.arrival-came.new.self c.loop-leaf.leaves c.turn-offer.new.self c.loop-leaf.offers c.loop-leaf.tally c.add.new.self c.loop-leaf.leaf c.arrival-came.result c.turn-offer.result c.entry_for.result c.is_for_other-sent_back.result
    c.requires.can (in_size n c.loop-leaf.leaf c.len-leaf-end.result c.requires.can c.loop-leaf-test.true c.len-leaf-end.ensures) (pow_small c.args.way.now.depth c.requires.can.most) c.loop-leaf.invariant
    (record {
      came_is = c.arrival-came.ensures.packet;
      state = c.arrival-came.ensures.state;
      links = c.arrival-came.ensures.links;
      entry_is = c.entry_for.ensures;
      sent = c.is_for_other-sent_back.ensures;
      packet = c.turn-offer.ensures.packet;
      leaves = c.turn-offer.ensures.state;
      offered_is = c.add.ensures.offered;
      configs = c.add.ensures.configs;
      injected = c.add.ensures.injected;
      first = c.add.ensures.sent_back;
    })

pub returns : goal.returns
returns c =
    let n : NetState = before_round c.args.way.now c.args.leaves.now c.args.entries.now c.args.round.0 in
    let all : c.loop-leaf.leaf ≡ net_size n = omega (arith, c.requires.can.many, c.len-leaf-end.ensures, c.loop-leaf-test.false, c.loop-leaf.auto) in
    subst (λ (k : ℕ). HavePassed n c.loop-leaf.way c.loop-leaf.leaves c.loop-leaf.offers c.loop-leaf.tally k) all c.loop-leaf.invariant
