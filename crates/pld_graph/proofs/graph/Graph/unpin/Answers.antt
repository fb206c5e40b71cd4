use Rattle.pld_graph.specs.Design.{Design}
use Rattle.pld_graph.proofs.Changes.{unpin_kept}
use Rattle.pld_graph.proofs.graph.Graph.unpin.Goals as goal

pub invariant_of-self : goal.invariant_of-self
invariant_of-self c =
    let d : Design = record { operators = c.self.inside.operators; channels = c.self.inside.channels; depth = c.self.inside.depth; pattern = c.self.inside.pattern; window = c.self.inside.window } in
    unpin_kept d c.in-Some.k _ c.in-Some.ensures.within c.unpin.ensures c.self.invariant
