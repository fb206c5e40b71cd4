use Rattle.std.proofs.Common.{◌≡◌, ℕ, ◌==◌, ◌<◌, Some, cond, length, refl, sym, ap, subst, ◌∙◌, slice_set}
use Rattle.std.specs.Int.{bit_at}
use Rattle.pld_graph.specs.Parts.{passes}
use Rattle.pld_graph.specs.Design.{operator_at}
use Rattle.pld_graph.specs.Entries.{listed}
use Rattle.pld_graph.specs.Masks.{IsMask}
use Rattle.pld_graph.specs.Sound.{is_pinned}
use Rattle.std.specs.List.{count_by}
use Rattle.std.specs.Prelude.{remove}
use Rattle.pld_graph.proofs.Named.{set_listed}
use Rattle.pld_graph.proofs.Masks.{value_pin, value_below, pin_masked}
use Rattle.pld_graph.proofs.operators.Operators.pin.Goals as goal

pub without_pin-pinned-requires : goal.without_pin-pinned-requires
without_pin-pinned-requires c =
    value_below c.self.inside.by_name.entries c.self.inside.pinned c.args.k c.index.result.now c.index.ensures (subst (λ os. c.args.k < length os) (sym c.self.view_is) c.requires.within) c.self.invariant

pub invariant_of-self : goal.invariant_of-self
invariant_of-self c =
    let es = c.self.inside.by_name.entries in
    let k = c.args.k in
    let there = subst (λ os. k < length os) (sym c.self.view_is) c.requires.within in
    let list = set_listed (λ v. record v { pin = Some c.args.leaf }) (λ o. record o { pin = Some c.args.leaf }) (λ e. refl) es k c.index_mut.result.now c.index_mut.ensures.value in
    let bits = λ (l : ℕ). c.without_pin-pinned.ensures.bits l ∙ ap (λ p. cond (passes (λ q. q == l) p) 0 (bit_at c.self.inside.pinned l)) (sym (value_pin es k c.index.result.now c.index.ensures)) in
    let free = subst (λ os. count_by (is_pinned c.args.leaf) (remove os k) ≡ 0) (sym c.self.view_is) c.requires.free in
    subst (λ os. IsMask os c.with_leaf-self-inside.result) (sym list)
    (pin_masked (listed es) c.self.inside.pinned c.without_pin-pinned.result c.with_leaf-self-inside.result k c.args.leaf there c.self.invariant free bits c.with_leaf-self-inside.ensures.bits c.with_leaf-self-inside.ensures.small)

pub returns : goal.returns
returns c =
    let k = c.args.k in
    set_listed (λ v. record v { pin = Some c.args.leaf }) (λ o. record o { pin = Some c.args.leaf }) (λ e. refl) c.self.inside.by_name.entries k c.index_mut.result.now c.index_mut.ensures.value
    ∙ ap (λ os. slice_set os k (record (operator_at os k) { pin = Some c.args.leaf })) c.self.view_is
