use Rattle.std.proofs.Common.{subst, sym}
use Rattle.net_switch.specs.declared.packet.Body.{Body}
use Rattle.net_switch.specs.declared.packet.Body.TheVariants.{Config}
use Rattle.leaf_port.specs.Leaf.{LeafState, CanArrive}
use Rattle.leaf_port.proofs.Keeps.{with_row_keeps}
use Rattle.leaf_port.proofs.leaf.Leaf.deliver.Goals as goal

pub invariant_of-self-in-Config : goal.invariant_of-self-in-Config
invariant_of-self-in-Config c =
    let s : LeafState = record { own = c.self.inside.own.0; window = c.self.inside.window; rows = c.self.inside.rows; outs = c.self.inside.outs; ins = c.self.inside.ins.items; box = c.self.inside.outbox.items; back = c.self.inside.back } in
    let here : CanArrive s c.args.body = subst (λ (t : LeafState). CanArrive t c.args.body) (sym c.self.view_is) c.requires in
    let config : CanArrive s (Config c.in-Config.slot c.in-Config.row) = subst (λ (b : Body). CanArrive s b) c.in-Config.is here in
    (with_row_keeps s c.in-Config.slot c.in-Config.row c.self.invariant.0 config.1, c.self.invariant.1, c.self.invariant.2)
