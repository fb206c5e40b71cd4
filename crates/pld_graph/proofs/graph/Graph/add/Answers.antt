use Rattle.std.proofs.Common.{sym, ap, ◌∙◌}
use Rattle.pld_graph.specs.Design.{Design}
use Rattle.pld_graph.specs.Edits.{fault_in}
use Rattle.pld_graph.proofs.Changes.{add_kept}
use Rattle.pld_graph.proofs.graph.Graph.add.Goals as goal

pub invariant_of-self : goal.invariant_of-self
invariant_of-self c =
    let d : Design = record { operators = c.self.inside.operators; channels = c.self.inside.channels; depth = c.self.inside.depth; pattern = c.self.inside.pattern; window = c.self.inside.window } in
    add_kept d c.args.self.now c.args.name c.args.ins c.args.outs _ c.push.result c.self.view_is (sym c.may_add.ensures ∙ ap fault_in c.in_default.is) c.push.ensures c.self.invariant
