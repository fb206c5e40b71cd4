use Rattle.std.proofs.Common.{ℕ, ◌==◌, ◌<◌, cond, length, sym, ap, subst, ◌∙◌, remove}
use Rattle.std.specs.Int.{bit_at}
use Rattle.pld_graph.specs.Parts.{passes}
use Rattle.pld_graph.specs.Entries.{entry_of, listed}
use Rattle.pld_graph.specs.Masks.{IsMask}
use Rattle.pld_graph.proofs.Named.{map-remove}
use Rattle.pld_graph.proofs.Masks.{value_pin, value_below, remove_masked}
use Rattle.pld_graph.proofs.operators.Operators.remove.Goals as goal

pub without_pin-self-inside-requires : goal.without_pin-self-inside-requires
without_pin-self-inside-requires c =
    value_below c.self.inside.by_name.entries c.self.inside.pinned c.args.k c.index.result.now c.index.ensures (subst (λ os. c.args.k < length os) (sym c.self.view_is) c.requires) c.self.invariant

pub invariant_of-self : goal.invariant_of-self
invariant_of-self c =
    let es = c.self.inside.by_name.entries in
    let k = c.args.k in
    let there = subst (λ os. k < length os) (sym c.self.view_is) c.requires in
    let bits = λ (l : ℕ). c.without_pin-self-inside.ensures.bits l ∙ ap (λ p. cond (passes (λ q. q == l) p) 0 (bit_at c.self.inside.pinned l)) (sym (value_pin es k c.index.result.now c.index.ensures)) in
    subst (λ os. IsMask os c.without_pin-self-inside.result) (sym (ap listed c.shift_remove_index.ensures.entries ∙ map-remove entry_of es k)) (remove_masked (listed es) c.self.inside.pinned c.without_pin-self-inside.result k there c.self.invariant bits c.without_pin-self-inside.ensures.small)

pub returns : goal.returns
returns c = ap listed c.shift_remove_index.ensures.entries ∙ map-remove entry_of c.self.inside.by_name.entries c.args.k ∙ ap (λ os. remove os c.args.k) c.self.view_is
