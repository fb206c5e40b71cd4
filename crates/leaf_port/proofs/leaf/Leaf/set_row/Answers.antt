use Rattle.std.proofs.Common.{◌≡◌, subst, sym, true}
use Rattle.leaf_port.specs.Leaf.{LeafState, is_idle}
use Rattle.leaf_port.proofs.Keeps.{with_row_keeps}
use Rattle.leaf_port.proofs.leaf.Leaf.set_row.Goals as goal

pub invariant_of-self : goal.invariant_of-self
invariant_of-self c =
    let s : LeafState = record { own = c.self.inside.own.0; window = c.self.inside.window; rows = c.self.inside.rows; outs = c.self.inside.outs; ins = c.self.inside.ins.items; box = c.self.inside.outbox.items; back = c.self.inside.back } in
    let idle : is_idle s ≡ true = subst (λ (t : LeafState). is_idle t ≡ true) (sym c.self.view_is) c.requires.idle in
    (with_row_keeps s c.args.slot c.args.row c.self.invariant.0 idle, c.self.invariant.1, c.self.invariant.2)
