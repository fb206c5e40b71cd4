use Rattle.std.proofs.Common.{◌≡◌, ◌<◌, not, is_some, filter, length, ap, subst, ◌∙◌}
use Rattle.std.specs.Prelude.{None, IfSome, slice_set}
use Rattle.std.specs.List.{list_any}
use Rattle.std.specs.Map.{lookup}
use Rattle.pld_graph.specs.Parts.{same_from}
use Rattle.pld_graph.specs.Slots.{live}
use Rattle.pld_graph.proofs.Ended.{from_is, from_same}
use Rattle.pld_graph.proofs.Found.{found_there, alone_if, within_if}
use Rattle.pld_graph.proofs.slots.Slots.from_slot.Goals as goal

looked : (c : goal.After-copied) → c.copied.result ≡ lookup (same_from c.args.from.now) c.self.inside.from_at.entries
looked c = c.copied.ensures ∙ c.get.ensures.value ∙ (λ i. lookup (λ k. from_is c.args.from.now k i) c.self.inside.from_at.entries)

pub returns-clause-found : goal.returns-clause-found
returns-clause-found c =
    let q = c.args.from.now in
    ap is_some (looked c) ∙ found_there same_from from_same (λ d. d.from) c.self.inside.channels.items c.self.inside.from_at.entries c.self.invariant.0 q
    ∙ ap (λ s. list_any (λ d. same_from q d.from) (live s)) c.self.view_is

pub returns-clause-alone : goal.returns-clause-alone
returns-clause-alone c =
    let q = c.args.from.now in
    subst (λ s. IfSome c.copied.result (λ i. live (slice_set s i None) ≡ filter (λ d. not (same_from q d.from)) (live s))) c.self.view_is
    (alone_if same_from from_same (λ d. d.from) c.self.inside.channels.items c.self.inside.from_at.entries c.self.invariant.0 q c.copied.result (looked c))

pub returns-clause-within : goal.returns-clause-within
returns-clause-within c =
    let q = c.args.from.now in
    subst (λ s. IfSome c.copied.result (λ i. i < length s)) c.self.view_is
    (within_if same_from from_same (λ d. d.from) c.self.inside.channels.items c.self.inside.from_at.entries c.self.invariant.0 q c.copied.result (looked c))
