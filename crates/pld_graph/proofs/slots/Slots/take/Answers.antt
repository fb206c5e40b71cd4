use Rattle.std.proofs.Common.{◌≡◌, ◌<◌, Bool, Some, None, cond, length, refl, sym, ap, subst, ◌∙◌}
use Rattle.std.specs.Prelude.{slice_get}
use Rattle.std.specs.Map.{lookup}
use Rattle.std.proofs.lemmas.Option.{slice_get_read}
use Rattle.pld_graph.specs.declared.parts.FromEnd.{FromEnd}
use Rattle.pld_graph.specs.declared.parts.ToEnd.{ToEnd}
use Rattle.pld_graph.specs.Parts.{same_from, same_to}
use Rattle.pld_graph.proofs.Ended.{from_is, from_same, to_is, to_same}
use Rattle.pld_graph.proofs.Found.{found_less}
use Rattle.pld_graph.proofs.slots.Slots.take.Goals as goal

there : (c : goal.After-self-1) → slice_get c.self.inside.channels.items c.args.i ≡ Some (Some c.in_ok-gone.gone)
there c = slice_get_read c.self.inside.channels.items _ c.args.i c.index.result.now refl (subst (λ s. c.args.i < length s) (sym c.self.view_is) c.requires) c.index.ensures ∙ ap Some c.in_ok-gone.was

pub invariant_of-self : goal.invariant_of-self
invariant_of-self c =
    let es = c.self.inside.from_at.entries in
    let fs = c.self.inside.to_at.entries in (
      found_less same_from from_same (λ d. d.from) c.self.inside.channels.items es c.self.invariant.0 c.args.i c.in_ok-gone.gone _ (there c)
          (subst (λ (t : FromEnd → FromEnd → Bool). (q : FromEnd) → lookup (t q) c.swap_remove.new.self.entries ≡ cond (t c.in_ok-gone.gone.from q) None (lookup (t q) es)) (λ i a b. from_is a b i) c.swap_remove.ensures.updates.0),
      found_less same_to to_same (λ d. d.to) c.self.inside.channels.items fs c.self.invariant.1 c.args.i c.in_ok-gone.gone _ (there c)
          (subst (λ (t : ToEnd → ToEnd → Bool). (q : ToEnd) → lookup (t q) c.swap_remove-2.new.self.entries ≡ cond (t c.in_ok-gone.gone.to q) None (lookup (t q) fs)) (λ i a b. to_is a b i) c.swap_remove-2.ensures.updates.0),
    )

pub returns-clause-taken : goal.returns-clause-taken
returns-clause-taken c = ap (λ s. slice_get s c.args.i) (sym c.self.view_is) ∙ there c
