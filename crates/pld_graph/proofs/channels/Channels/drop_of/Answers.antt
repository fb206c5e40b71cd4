use Rattle.std.proofs.Common.{not, ap, ◌∙◌}
use Rattle.std.specs.List.{list_all}
use Rattle.pld_graph.specs.Parts.{stands_at, is_of}
use Rattle.pld_graph.specs.Sound.{is_directed}
use Rattle.pld_graph.specs.Slots.{live}
use Rattle.pld_graph.proofs.Ended.{list_all-filter}
use Rattle.pld_graph.proofs.channels.Channels.drop_of.Goals as goal

pub invariant_of-self : goal.invariant_of-self
invariant_of-self c = (ap (list_all is_directed) c.empty_of.ensures.left ∙ list_all-filter is_directed (λ d. not (stands_at (is_of c.args.name.now) d)) (live c.self.inside.slots) c.self.invariant.0, c.empty_of.ensures.counted)
