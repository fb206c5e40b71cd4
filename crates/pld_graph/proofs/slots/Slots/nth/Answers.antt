use Rattle.std.proofs.Common.{rules, tests, sym, ap, ◌∙◌}
use Rattle.std.specs.Prelude.{slice_get}
use Rattle.std.proofs.lemmas.Iterator.Consumers.{nth_from_yields_List, YieldsList-from_filter_map}
use Rattle.std.proofs.lemmas.Iterator.{YieldsList-from_slice}
use Rattle.std.proofs.lemmas.Iterator.Adapters.{option_map_id}
use Rattle.pld_graph.specs.Parts.{from_input, to_output}
use Rattle.pld_graph.specs.Design.{inputs, outputs}
use Rattle.pld_graph.specs.Slots.{live, in_slot}
use Rattle.pld_graph.proofs.Found.{picked}
use Rattle.pld_graph.proofs.slots.Slots.nth.Goals as goal

pub returns : goal.returns
returns c =
    sym (option_map_id _)
    ∙ nth_from_yields_List c.nth.result _ c.args.k c.nth.ensures.ran (YieldsList-from_filter_map _ (λ s. s) (YieldsList-from_slice c.self.inside.channels.items cc) c.filter_map.ensures.closure (λ x r q k. search (rules, tests)))
    ∙ ap (λ s. slice_get (live s) c.args.k) c.self.view_is
