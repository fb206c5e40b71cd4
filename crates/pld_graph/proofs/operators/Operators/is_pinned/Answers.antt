use Rattle.std.proofs.Common.{ap, ◌∙◌}
use Rattle.std.specs.List.{list_any}
use Rattle.pld_graph.specs.Sound.{is_pinned}
use Rattle.pld_graph.proofs.Masks.{told}
use Rattle.pld_graph.specs.Entries.{listed}
use Rattle.pld_graph.proofs.operators.Operators.is_pinned.Goals as goal

pub returns : goal.returns
returns c = c.has_leaf.ensures ∙ told (listed c.self.inside.by_name.entries) c.self.inside.pinned c.args.leaf c.self.invariant ∙ ap (list_any (is_pinned c.args.leaf)) c.self.view_is
