use Rattle.std.proofs.Common.{ap, ◌∙◌}
use Rattle.pld_graph.specs.Design.{is_linked}
use Rattle.pld_graph.specs.Slots.{live}
use Rattle.pld_graph.proofs.Ended.{linked_out, linked_in}
use Rattle.pld_graph.proofs.channels.Channels.is_linked.Goals as goal

pub returns-in-Out : goal.returns-in-Out
returns-in-Out c = c.is_some.ensures ∙ c.from_slot.ensures.found ∙ linked_out c.args.end.now (live c.self.inside.slots) c.in-Out.is c.self.invariant.0 ∙ ap (λ cs. is_linked cs c.args.end.now) c.self.view_is

pub returns-in-In : goal.returns-in-In
returns-in-In c = c.is_some-in-In.ensures ∙ c.to_slot.ensures.found ∙ linked_in c.args.end.now (live c.self.inside.slots) c.in-In.is c.self.invariant.0 ∙ ap (λ cs. is_linked cs c.args.end.now) c.self.view_is
