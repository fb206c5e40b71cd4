use Rattle.std.proofs.Common.{◌≡◌, ◌<◌, ◌&&◌, not, length, Some, sym, ap, ◌∙◌, subst}
use Rattle.std.specs.List.{list_any}
use Rattle.pld_graph.specs.Design.{Design, operator_at, place_of}
use Rattle.pld_graph.specs.Edits.{is_rival}
use Rattle.pld_graph.specs.Sound.{is_pinned}
use Rattle.pld_graph.proofs.Masks.{rival_told}
use Rattle.pld_graph.proofs.graph.Graph.has_rival.Goals as goal

pub returns : goal.returns
returns c =
    let d : Design = record { operators = c.self.inside.operators; channels = c.self.inside.channels; depth = c.self.inside.depth; pattern = c.self.inside.pattern; window = c.self.inside.window } in
    let leaf = c.args.leaf in
    let within = subst (λ (x : Design). c.args.k < length x.operators) (sym c.self.view_is) c.requires.within in
    let place = subst (λ (x : Design). Some c.args.k ≡ place_of c.args.name.now x) (sym c.self.view_is) c.requires.place in
    let own = c.is_pin-own.ensures ∙ ap (λ o. is_pinned leaf o) c.at.ensures in
    c.is_only_other.ensures ∙ ap (λ b. not b && c.is_pinned.result) own ∙ ap (λ b. not (is_pinned leaf (operator_at d.operators c.args.k)) && b) c.is_pinned.ensures
    ∙ rival_told d c.args.name.now leaf c.args.k within place c.self.invariant ∙ ap (λ (x : Design). list_any (is_rival c.args.name.now leaf) x.operators) c.self.view_is
