use Rattle.std.proofs.Common.{◌≡◌, ◌<◌, not, is_some, filter, length, ap, subst, ◌∙◌}
use Rattle.std.specs.Prelude.{None, IfSome, slice_set}
use Rattle.std.specs.List.{list_any}
use Rattle.std.specs.Map.{lookup}
use Rattle.pld_graph.specs.Parts.{same_to}
use Rattle.pld_graph.specs.Slots.{live}
use Rattle.pld_graph.proofs.Ended.{to_is, to_same}
use Rattle.pld_graph.proofs.Found.{found_there, alone_if, within_if}
use Rattle.pld_graph.proofs.slots.Slots.to_slot.Goals as goal

looked : (c : goal.After-copied) → c.copied.result ≡ lookup (same_to c.args.to.now) c.self.inside.to_at.entries
looked c = c.copied.ensures ∙ c.get.ensures.value ∙ (λ i. lookup (λ k. to_is c.args.to.now k i) c.self.inside.to_at.entries)

pub returns-clause-found : goal.returns-clause-found
returns-clause-found c =
    let q = c.args.to.now in
    ap is_some (looked c) ∙ found_there same_to to_same (λ d. d.to) c.self.inside.channels.items c.self.inside.to_at.entries c.self.invariant.1 q
    ∙ ap (λ s. list_any (λ d. same_to q d.to) (live s)) c.self.view_is

pub returns-clause-alone : goal.returns-clause-alone
returns-clause-alone c =
    let q = c.args.to.now in
    subst (λ s. IfSome c.copied.result (λ i. live (slice_set s i None) ≡ filter (λ d. not (same_to q d.to)) (live s))) c.self.view_is
    (alone_if same_to to_same (λ d. d.to) c.self.inside.channels.items c.self.inside.to_at.entries c.self.invariant.1 q c.copied.result (looked c))

pub returns-clause-within : goal.returns-clause-within
returns-clause-within c =
    let q = c.args.to.now in
    subst (λ s. IfSome c.copied.result (λ i. i < length s)) c.self.view_is
    (within_if same_to to_same (λ d. d.to) c.self.inside.channels.items c.self.inside.to_at.entries c.self.invariant.1 q c.copied.result (looked c))
