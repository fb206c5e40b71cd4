use Rattle.pld_graph.specs.Design.{Design}
use Rattle.pld_graph.proofs.Changes.{remove_kept}
use Rattle.pld_graph.proofs.graph.Graph.remove.Goals as goal

pub invariant_of-self : goal.invariant_of-self
invariant_of-self c =
    let d : Design = record { operators = c.self.inside.operators; channels = c.self.inside.channels; depth = c.self.inside.depth; pattern = c.self.inside.pattern; window = c.self.inside.window } in
    remove_kept d c.args.name c.in-Some.k _ _ c.in-Some.ensures.within c.in-Some.ensures.place c.remove.ensures c.drop_of.ensures c.self.invariant
