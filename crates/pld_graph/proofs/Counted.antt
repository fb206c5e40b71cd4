-- Channels, inputs and outputs, counted where channels come and go.
use Rattle.std.proofs.Common.{◌≡◌, ℕ, zero, suc, ◌+◌, ◌-◌, ◌≤◌, ◌<◌, List, [], ◌∷◌, ◌++◌, length, Option, Some, None, refl, sym, ap, ◌∙◌, arith, length-append}
use Rattle.std.specs.Prelude.{slice_get, slice_set}
use Rattle.std.specs.List.{filter_map, cons_option}
use Rattle.std.proofs.lemmas.Option.{none-some, same_Some}
use Rattle.std.proofs.lemmas.List.Elements.{filter_map-append}
use Rattle.pld_graph.specs.declared.parts.Channel.{Channel}
use Rattle.pld_graph.specs.declared.channels.Tally.{Tally}
use Rattle.pld_graph.specs.Parts.{from_input, to_output}
use Rattle.pld_graph.specs.Masks.{ones, AreCounted}
use Rattle.pld_graph.specs.Slots.{live}

cons_length : {Y : Type 0} (o : Option Y) (ys : List Y) → length (cons_option o ys) ≡ length ys + ones o
cons_length None ys = omega arith
cons_length (Some y) ys = omega arith

-- no more channels stand than there are slots
pub live_few : (slots : List (Option Channel)) → length (live slots) ≤ length slots
live_few [] = omega arith
live_few (None ∷ slots) = let few = live_few slots in omega (arith, few)
live_few (Some c ∷ slots) = let few = live_few slots in omega (arith, few)

-- one element more
pub one_more : {X Y : Type 0} (h : X → Option Y) (xs ys : List X) (x : X) → ys ≡ xs ++ x ∷ [] → length (filter_map h ys) ≡ length (filter_map h xs) + ones (h x)
one_more h xs ys x e =
    let last = cons_length (h x) [] in
    let all = length-append (filter_map h xs) (filter_map h (x ∷ [])) in
    ap (λ zs. length (filter_map h zs)) e ∙ ap length (filter_map-append h xs (x ∷ [])) ∙ omega (arith, last, all)

-- of the channels in slots, one less
one_out : {Y : Type 0} (h : Channel → Option Y) (slots : List (Option Channel)) (k : ℕ) (c : Channel) → slice_get slots k ≡ Some (Some c)
    → length (filter_map h (live (slice_set slots k None))) + ones (h c) ≡ length (filter_map h (live slots))
one_out h [] k c at = absurd (none-some (Some c) at)
one_out h (None ∷ slots) zero c at = absurd (none-some c (same_Some None (Some c) at))
one_out h (Some d ∷ slots) zero c at = ap (λ z. length (filter_map h (live slots)) + ones (h z)) (sym (same_Some d c (same_Some (Some d) (Some c) at))) ∙ sym (cons_length (h d) (filter_map h (live slots)))
one_out h (None ∷ slots) (suc k) c at = one_out h slots k c at
one_out h (Some d ∷ slots) (suc k) c at =
    let rest = one_out h slots k c at in
    let a = cons_length (h d) (filter_map h (live (slice_set slots k None))) in
    let b = cons_length (h d) (filter_map h (live slots)) in
    omega (arith, rest, a, b)

length-all : (cs : List Channel) → length (filter_map (λ c. Some c) cs) ≡ length cs
length-all [] = refl
length-all (c ∷ cs) = ap suc (length-all cs)

-- behind a channel more
pub more_counted : (cs ds : List Channel) (c : Channel) (t u : Tally) → ds ≡ cs ++ c ∷ [] → u.channels ≡ t.channels + 1 → u.inputs ≡ t.inputs + ones (from_input c.from) → u.outputs ≡ t.outputs + ones (to_output c.to)
    → AreCounted cs t → AreCounted ds u
more_counted cs ds c t u e d f g old = record {
  channels = d ∙ ap (λ n. n + 1) old.channels ∙ sym (ap length e ∙ length-append cs (c ∷ []));
  inputs = f ∙ ap (λ n. n + ones (from_input c.from)) old.inputs ∙ sym (one_more (λ x. from_input x.from) cs ds c e);
  outputs = g ∙ ap (λ n. n + ones (to_output c.to)) old.outputs ∙ sym (one_more (λ x. to_output x.to) cs ds c e);
}

-- there is something to be taken from the counts, where a channel goes
pub enough : (slots : List (Option Channel)) (k : ℕ) (c : Channel) (t : Tally) → slice_get slots k ≡ Some (Some c) → AreCounted (live slots) t
    → (1 ≤ t.channels) × ((ones (from_input c.from) ≤ t.inputs) × (ones (to_output c.to) ≤ t.outputs))
enough slots k c t at old =
    let n = one_out (λ x. Some x) slots k c at ∙ length-all (live slots) in
    let a = one_out (λ x. from_input x.from) slots k c at in
    let b = one_out (λ x. to_output x.to) slots k c at in
    let all = old.channels in
    let i = old.inputs in
    let o = old.outputs in
    (omega (arith, n, all), (omega (arith, a, i), omega (arith, b, o)))

-- behind a channel less
pub less_counted : (slots : List (Option Channel)) (k : ℕ) (c : Channel) (t u : Tally) → slice_get slots k ≡ Some (Some c) → u.channels ≡ t.channels - 1 → u.inputs ≡ t.inputs - ones (from_input c.from)
    → u.outputs ≡ t.outputs - ones (to_output c.to) → AreCounted (live slots) t → AreCounted (live (slice_set slots k None)) u
less_counted slots k c t u at d f g old =
    let n = one_out (λ x. Some x) slots k c at ∙ length-all (live slots) in
    let m = length-all (live (slice_set slots k None)) in
    let a = one_out (λ x. from_input x.from) slots k c at in
    let b = one_out (λ x. to_output x.to) slots k c at in
    let all = old.channels in
    let i = old.inputs in
    let o = old.outputs in
    record { channels = omega (arith, n, m, d, all); inputs = omega (arith, a, f, i); outputs = omega (arith, b, g, o) }
