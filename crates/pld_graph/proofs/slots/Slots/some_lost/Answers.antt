use Rattle.std.proofs.Common.{rules, tests, ap, ◌∙◌}
use Rattle.std.specs.List.{list_any}
use Rattle.std.proofs.lemmas.Iterator.{YieldsList-from_slice}
use Rattle.std.proofs.lemmas.Iterator.Search.{any_from_yields_List}
use Rattle.pld_graph.specs.Parts.{stands_at, is_lost, passes}
use Rattle.pld_graph.specs.Slots.{live}
use Rattle.pld_graph.proofs.Found.{any_slot}
use Rattle.pld_graph.proofs.slots.Slots.some_lost.Goals as goal

pub returns : goal.returns
returns c =
    let test = stands_at (is_lost c.args.name.now c.args.ins c.args.outs) in
    any_from_yields_List (passes test) _ _ _ c.any.ensures.ran (YieldsList-from_slice c.self.inside.channels.items cc) (λ x b q k. search (rules, tests))
    ∙ any_slot test c.self.inside.channels.items ∙ ap (λ s. list_any test (live s)) c.self.view_is
