use Rattle.pld_graph.specs.Design.{Design}
use Rattle.pld_graph.proofs.Changes.{cut_kept}
use Rattle.pld_graph.proofs.graph.Graph.disconnect.Goals as goal

pub invariant_of-self : goal.invariant_of-self
invariant_of-self c =
    let d : Design = record { operators = c.self.inside.operators; channels = c.self.inside.channels; depth = c.self.inside.depth; pattern = c.self.inside.pattern; window = c.self.inside.window } in
    cut_kept d _ _ c.drop_cut.ensures c.self.invariant
