use Rattle.std.proofs.Common.{◌≡◌, true, false, sym, ap, ◌∙◌, subst}
use Rattle.std.specs.List.{list_any}
use Rattle.pld_graph.specs.Design.{Design}
use Rattle.pld_graph.specs.Edits.{fault_in, is_leaf, is_rival}
use Rattle.pld_graph.proofs.Changes.{pin_kept}
use Rattle.pld_graph.proofs.Sounds.{alone_there, found_here}
use Rattle.pld_graph.proofs.Refusals.{when_none}
use Rattle.pld_graph.proofs.graph.Graph.pin.Goals as goal

pub pin-requires-clause-free : goal.pin-requires-clause-free
pin-requires-clause-free c =
    let d : Design = record { operators = c.self.inside.operators; channels = c.self.inside.channels; depth = c.self.inside.depth; pattern = c.self.inside.pattern; window = c.self.inside.window } in
    let none = when_none c.has_rival.result _ (sym c.refuse.ensures ∙ ap fault_in c.in_ok-refuse.was) in
    let free = subst (λ (x : Design). list_any (is_rival c.args.name c.in-Some-leaf_within.leaf) x.operators ≡ false) (sym c.self.view_is) (sym c.has_rival.ensures ∙ none) in
    alone_there d c.args.name c.in-Some.k c.in-Some-leaf_within.leaf c.in-Some.ensures.within (found_here c.in-Some.k c.args.name d.operators (sym c.in-Some.ensures.place)) free c.self.invariant

pub invariant_of-self : goal.invariant_of-self
invariant_of-self c =
    let d : Design = record { operators = c.self.inside.operators; channels = c.self.inside.channels; depth = c.self.inside.depth; pattern = c.self.inside.pattern; window = c.self.inside.window } in
    let leaf = c.in-Some-leaf_within.ensures.leaf in
    let within : is_leaf d.depth c.in-Some-leaf_within.leaf ≡ true = subst (λ l. is_leaf d.depth l ≡ true) (sym leaf.1) leaf.0 in
    let none = when_none c.has_rival.result _ (sym c.refuse.ensures ∙ ap fault_in c.in_ok-refuse.was) in
    let free = subst (λ (x : Design). list_any (is_rival c.args.name c.in-Some-leaf_within.leaf) x.operators ≡ false) (sym c.self.view_is) (sym c.has_rival.ensures ∙ none) in
    pin_kept d c.args.name c.in-Some.k c.in-Some-leaf_within.leaf _ c.in-Some.ensures.within c.in-Some.ensures.place within free c.pin.ensures c.self.invariant
