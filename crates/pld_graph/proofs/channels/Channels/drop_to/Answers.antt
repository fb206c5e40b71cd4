use Rattle.std.proofs.Common.{◌≡◌, true, not, filter, sym, ap, subst, ◌∙◌}
use Rattle.std.specs.List.{list_all, list_any}
use Rattle.pld_graph.specs.declared.parts.Channel.{Channel}
use Rattle.pld_graph.specs.Parts.{same_to}
use Rattle.pld_graph.specs.Sound.{is_directed}
use Rattle.pld_graph.specs.Slots.{live}
use Rattle.pld_graph.proofs.Ended.{list_all-filter}
use Rattle.pld_graph.proofs.Once.{none_dropped}
use Rattle.pld_graph.proofs.channels.Channels.drop_to.Goals as goal

pub invariant_of-self : goal.invariant_of-self
invariant_of-self c =
    (ap (list_all is_directed) (ap live c.empty.ensures.emptied ∙ c.in-Some.ensures.alone) ∙ list_all-filter is_directed (λ d. not (same_to c.args.to.now d.to)) (live c.self.inside.slots) c.self.invariant.0, c.empty.ensures.counted)

pub returns-in_default-clause-removed : goal.returns-in_default-clause-removed
returns-in_default-clause-removed c =
    sym (none_dropped (λ d. same_to c.args.to.now d.to) c.args.self.now (ap (λ cs. list_any (λ d. same_to c.args.to.now d.to) cs) (sym c.self.view_is) ∙ sym c.in_default.ensures.found))
