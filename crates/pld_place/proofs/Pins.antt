-- An operator is found at its own place, since no other has its name.
use Rattle.std.proofs.Common.{◌≡◌, ℕ, zero, suc, ◌+◌, ◌<◌, ◌≤◌, Bool, true, false, cond, if◌then◌else◌, List, [], ◌∷◌, length, refl, ap, ◌∙◌, arith, Some}
use Rattle.std.specs.Prelude.{bytes_eq}
use Rattle.std.specs.List.{count_by}
use Rattle.std.proofs.lemmas.List.Sums.{sum_by-cons}
use Rattle.std.proofs.lemmas.Slice.Eq.{bytes_eq-Decides}
use Rattle.pld_graph.specs.declared.parts.OperatorEntry.{OperatorEntry}
use Rattle.pld_graph.specs.Design.{Design, is_called, operator_at, pin_at, pin_in, place_from}
use Rattle.pld_graph.specs.Sound.{IsSound}

own_name : (name : List ℕ) → bytes_eq name name ≡ true
own_name name = (bytes_eq-Decides name name).1 refl

counted : (name : List ℕ) (os : List OperatorEntry) (k : ℕ) → k < length os → is_called name (operator_at os k) ≡ true → 1 ≤ count_by (is_called name) os
counted name [] k few here = absurd (omega (arith, few))
counted name (o ∷ os) zero few here =
    let one : cond {A = ℕ} (is_called name o) 1 0 ≡ 1 = ap (λ b. cond b 1 0) here in
    omega (arith, one, sum_by-cons (λ x. cond (is_called name x) 1 0) o os)
counted name (o ∷ os) (suc k) few here = omega (arith, counted name os k (omega (arith, few)) here, sum_by-cons (λ x. cond (is_called name x) 1 0) o os)

place_here : (n : ℕ) (name : List ℕ) (os : List OperatorEntry) (k : ℕ) → k < length os → is_called name (operator_at os k) ≡ true → count_by (is_called name) os ≤ 1 → place_from n name os ≡ Some (n + k)
place_here n name [] k few here once = absurd (omega (arith, few))
place_here n name (o ∷ os) zero few here once = ap (λ b. if b then Some n else place_from (n + 1) name os) here ∙ ap Some (omega arith)
place_here n name (o ∷ os) (suc k) few here once = by (is_called name o) refl (place_here (n + 1) name os k (omega (arith, few)) here)
  where
    by : (b : Bool) → is_called name o ≡ b → (count_by (is_called name) os ≤ 1 → place_from (n + 1) name os ≡ Some (n + 1 + k)) → place_from n name (o ∷ os) ≡ Some (n + suc k)
    by true e rest =
        let one : cond {A = ℕ} (is_called name o) 1 0 ≡ 1 = ap (λ b. cond b 1 0) e in
        absurd (omega (arith, one, once, counted name os k (omega (arith, few)) here, sum_by-cons (λ x. cond (is_called name x) 1 0) o os))
    by false e rest =
        ap (λ b. if b then Some n else place_from (n + 1) name os) e
        ∙ rest (omega (arith, once, sum_by-cons (λ x. cond (is_called name x) 1 0) o os))
        ∙ ap Some (omega arith)

pub own_pin_of : (d : Design) (k : ℕ) → IsSound d → k < length d.operators → pin_in (operator_at d.operators k).name d ≡ (operator_at d.operators k).pin
own_pin_of d k sound few =
    let name = (operator_at d.operators k).name in
    let names = sound.names name in
    let at : 0 + k ≡ k = omega arith in
    ap (pin_at d.operators) (place_here 0 name d.operators k few (own_name name) (omega (arith, names)) ∙ ap Some at)
