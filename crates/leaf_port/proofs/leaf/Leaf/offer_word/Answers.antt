use Rattle.std.proofs.Common.{sym, arith}
use Rattle.leaf_port.specs.Leaf.{LeafState, IsWaiting}
use Rattle.leaf_port.proofs.Keeps.{dropped_keeps}
use Rattle.leaf_port.proofs.leaf.Leaf.offer_word.Goals as goal

pub bounds : goal.bounds
bounds c =
    let s : LeafState = record { own = c.self.inside.own.0; window = c.self.inside.window; rows = c.self.inside.rows; outs = c.self.inside.outs; ins = c.self.inside.ins.items; box = c.self.inside.outbox.items; back = c.self.inside.back } in
    let w : IsWaiting s.window s.rows c.in-Some.w = c.self.invariant.0.waiting 0 c.in-Some.w (sym c.in-Some.ensures.value) in
    omega (arith, w.port, c.self.invariant.0.rows)

pub invariant_of-self-in-Some-rows : goal.invariant_of-self-in-Some-rows
invariant_of-self-in-Some-rows c =
    let s : LeafState = record { own = c.self.inside.own.0; window = c.self.inside.window; rows = c.self.inside.rows; outs = c.self.inside.outs; ins = c.self.inside.ins.items; box = c.self.inside.outbox.items; back = c.self.inside.back } in
    rw c.pop_front.ensures.items (dropped_keeps s c.self.invariant.0, c.self.invariant.1, c.self.invariant.2)
