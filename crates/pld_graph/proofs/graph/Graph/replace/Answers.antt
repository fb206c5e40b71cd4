use Rattle.std.proofs.Common.{sym, ap, ◌∙◌}
use Rattle.pld_graph.specs.Design.{Design}
use Rattle.pld_graph.specs.Edits.{fault_in}
use Rattle.pld_graph.proofs.Changes.{replace_kept}
use Rattle.pld_graph.proofs.Refusals.{when_none}
use Rattle.pld_graph.proofs.graph.Graph.replace.Goals as goal

pub invariant_of-self : goal.invariant_of-self
invariant_of-self c =
    let d : Design = record { operators = c.self.inside.operators; channels = c.self.inside.channels; depth = c.self.inside.depth; pattern = c.self.inside.pattern; window = c.self.inside.window } in
    let stay = when_none c.some_lost.result _ (sym c.refuse.ensures ∙ ap fault_in c.in_ok-refuse.was) in
    replace_kept d c.args.name c.in-Some.k c.args.ins c.args.outs _ c.in-Some.ensures.within c.in-Some.ensures.place (sym c.some_lost.ensures ∙ stay) c.set_counts.ensures c.self.invariant
