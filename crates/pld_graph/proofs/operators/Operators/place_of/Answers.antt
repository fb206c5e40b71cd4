use Rattle.std.proofs.Common.{ap, ◌∙◌}
use Rattle.pld_graph.specs.Design.{place_from}
use Rattle.pld_graph.proofs.Named.{placed}
use Rattle.pld_graph.proofs.operators.Operators.place_of.Goals as goal

pub returns-clause-place : goal.returns-clause-place
returns-clause-place c = c.get_index_of.ensures.index ∙ placed c.args.name.now c.self.inside.by_name.entries ∙ ap (place_from 0 c.args.name.now) c.self.view_is
