use Rattle.std.proofs.Common.{rules, ap, ◌∙◌}
use Rattle.std.specs.List.{list_all}
use Rattle.pld_graph.specs.Sound.{is_directed}
use Rattle.pld_graph.specs.Slots.{live}
use Rattle.pld_graph.proofs.Counted.{more_counted}
use Rattle.pld_graph.proofs.Ended.{list_all-push}
use Rattle.pld_graph.proofs.channels.Channels.push.Goals as goal

pub invariant_of-self-2 : goal.invariant_of-self-2
invariant_of-self-2 c =
    let cs = live c.self.inside.slots in (
      ap (list_all is_directed) c.in_ok-push.ensures.pushed ∙ list_all-push is_directed cs _ c.self.invariant.0 c.requires.directed,
      more_counted cs _ (record { from = c.args.from.now; to = c.args.to.now }) c.self.inside.tally _ c.in_ok-push.ensures.pushed (search rules) (search rules) (search rules) c.self.invariant.1,
    )
