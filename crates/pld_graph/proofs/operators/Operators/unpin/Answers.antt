use Rattle.std.proofs.Common.{ℕ, ◌==◌, ◌<◌, None, cond, length, refl, sym, ap, subst, ◌∙◌, slice_set}
use Rattle.std.specs.Int.{bit_at}
use Rattle.pld_graph.specs.Parts.{passes}
use Rattle.pld_graph.specs.Design.{operator_at}
use Rattle.pld_graph.specs.Entries.{listed}
use Rattle.pld_graph.specs.Masks.{IsMask}
use Rattle.pld_graph.proofs.Named.{set_listed}
use Rattle.pld_graph.proofs.Masks.{value_pin, value_below, unpin_masked}
use Rattle.pld_graph.proofs.operators.Operators.unpin.Goals as goal

pub without_pin-self-inside-requires : goal.without_pin-self-inside-requires
without_pin-self-inside-requires c =
    value_below c.self.inside.by_name.entries c.self.inside.pinned c.args.k c.index.result.now c.index.ensures (subst (λ os. c.args.k < length os) (sym c.self.view_is) c.requires) c.self.invariant

pub invariant_of-self : goal.invariant_of-self
invariant_of-self c =
    let es = c.self.inside.by_name.entries in
    let k = c.args.k in
    let there = subst (λ os. k < length os) (sym c.self.view_is) c.requires in
    let list = set_listed (λ v. record v { pin = None }) (λ o. record o { pin = None }) (λ e. refl) es k c.index_mut.result.now c.index_mut.ensures.value in
    let bits = λ (l : ℕ). c.without_pin-self-inside.ensures.bits l ∙ ap (λ p. cond (passes (λ q. q == l) p) 0 (bit_at c.self.inside.pinned l)) (sym (value_pin es k c.index.result.now c.index.ensures)) in
    subst (λ os. IsMask os c.without_pin-self-inside.result) (sym list) (unpin_masked (listed es) c.self.inside.pinned c.without_pin-self-inside.result k there c.self.invariant bits c.without_pin-self-inside.ensures.small)

pub returns : goal.returns
returns c =
    let k = c.args.k in
    set_listed (λ v. record v { pin = None }) (λ o. record o { pin = None }) (λ e. refl) c.self.inside.by_name.entries k c.index_mut.result.now c.index_mut.ensures.value
    ∙ ap (λ os. slice_set os k (record (operator_at os k) { pin = None })) c.self.view_is
