-- Histories, and sums over views.
use Rattle.std.proofs.Common.{◌≡◌, ◌≢◌, ◌⊎◌, ℕ, zero, suc, ◌+◌, ◌<◌, ◌≤◌, eqb, List, [], ◌∷◌, ◌++◌, length, drop, set, Bool, true, false, refl, sym, ap, ◌∙◌, subst, inl, inr, arith, append_assoc, append-nil, eq-eqb, ne_eqb}
use Rattle.std.specs.Prelude.{nat_lt, if◌then◌else◌}
use mathlib.Core.Option.{some, some-injective, some-ne-none}
use lib.ListN.{get_elem?}
use Rattle.fabric_lock.specs.History.{seat_of, Begins, entries_of, AllOf, AllMade, longer, IsNext}
use Rattle.std.proofs.Math.Seq.{drop-length, drop-append_seam}
use Rattle.fabric_lock.specs.Rule.{total}

pub begins_self : (xs : List ℕ) → Begins xs xs
begins_self xs = ([], sym (append-nil xs))

pub begins_more : (log seen more : List ℕ) → Begins log seen → Begins (log ++ more) seen
begins_more log seen more h = (h.0 ++ more, ap (λ (l : List ℕ). l ++ more) h.1 ∙ append_assoc seen h.0 more)

pub begins_longer : (log xs ys : List ℕ) → Begins log xs → Begins log ys → Begins log (longer xs ys)
begins_longer log xs ys a b = elim (nat_lt (length xs) (length ys)) as (λ t. Begins log (if t then ys else xs)) [ true ↦ b | false ↦ a ]

pub entries-append : (n : ℕ) (xs ys : List ℕ) → entries_of n (xs ++ ys) ≡ entries_of n xs ++ entries_of n ys
entries-append n [] ys = refl
entries-append n (x ∷ xs) ys =
    elim (eqb (seat_of x) n) as (λ b. (if b then x ∷ entries_of n (xs ++ ys) else entries_of n (xs ++ ys)) ≡ (if b then x ∷ entries_of n xs else entries_of n xs) ++ entries_of n ys)
    [ true ↦ ap (λ (l : List ℕ). x ∷ l) (entries-append n xs ys) | false ↦ entries-append n xs ys ]

pub entries_all : (n : ℕ) (es : List ℕ) → AllOf n es → entries_of n es ≡ es
entries_all n [] h = refl
entries_all n (e ∷ es) h =
    subst (λ (b : Bool). (if b then e ∷ entries_of n es else entries_of n es) ≡ e ∷ es) (sym (eq-eqb (seat_of e) n h.0)) (ap (λ (l : List ℕ). e ∷ l) (entries_all n es h.1))

pub entries_none : (n m : ℕ) (es : List ℕ) → n ≢ m → AllOf n es → entries_of m es ≡ []
entries_none n m [] other h = refl
entries_none n m (e ∷ es) other h =
    subst (λ (b : Bool). (if b then e ∷ entries_of m es else entries_of m es) ≡ []) (sym (ne_eqb (seat_of e) m (λ same. other (sym h.0 ∙ same)))) (entries_none n m es other h.1)

pub entries_unmade : (n made : ℕ) (es : List ℕ) → made ≤ n → AllMade made es → entries_of n es ≡ []
entries_unmade n made [] le h = refl
entries_unmade n made (e ∷ es) le h =
    let low : seat_of e < made = h.0 in
    subst (λ (b : Bool). (if b then e ∷ entries_of n es else entries_of n es) ≡ []) (sym (ne_eqb (seat_of e) n (λ (same : seat_of e ≡ n). omega arith))) (entries_unmade n made es le h.1)

pub made-append : (made : ℕ) (xs ys : List ℕ) → AllMade made xs → AllMade made ys → AllMade made (xs ++ ys)
made-append made [] ys a b = b
made-append made (x ∷ xs) ys a b = (a.0, made-append made xs ys a.1 b)

pub made_of : (made n : ℕ) (es : List ℕ) → n < made → AllOf n es → AllMade made es
made_of made n [] lt h = tt
made_of made n (e ∷ es) lt h = let same : seat_of e ≡ n = h.0 in (omega arith, made_of made n es lt h.1)

pub made_more : (made more : ℕ) (es : List ℕ) → made ≤ more → AllMade made es → AllMade more es
made_more made more [] le h = tt
made_more made more (e ∷ es) le h = let low : seat_of e < made = h.0 in (omega arith, made_more made more es le h.1)

module _ {A : Type 0} (f : A → ℕ) where
  pub total_set : (xs : List A) (i : ℕ) (v w : A) → get_elem? xs i ≡ some v → total f (set xs i w) + f v ≡ total f xs + f w
  total_set [] i v w e = absurd (some-ne-none v (sym e))
  total_set (x ∷ xs) zero v w e = let same : f x ≡ f v = ap f (some-injective x v e) in omega arith
  total_set (x ∷ xs) (suc i) v w e = let h = total_set xs i v w e in omega arith

  pub total_stays : (xs : List A) (i : ℕ) (v w : A) → get_elem? xs i ≡ some v → f w ≡ f v → total f (set xs i w) ≡ total f xs
  total_stays xs i v w e same = let h = total_set xs i v w e in omega arith

  pub total-snoc : (xs : List A) (x : A) → total f (xs ++ x ∷ []) ≡ total f xs + f x
  total-snoc [] x = omega arith
  total-snoc (y ∷ ys) x = let h = total-snoc ys x in omega arith

  pub total_one : (xs : List A) (i : ℕ) (v : A) → get_elem? xs i ≡ some v → f v ≤ total f xs
  total_one [] i v e = absurd (some-ne-none v (sym e))
  total_one (x ∷ xs) zero v e = let same : f x ≡ f v = ap f (some-injective x v e) in omega arith
  total_one (x ∷ xs) (suc i) v e = let h = total_one xs i v e in omega arith

  pub total_two : (xs : List A) (i j : ℕ) (v w : A) → get_elem? xs i ≡ some v → get_elem? xs j ≡ some w → j ≢ i → f v + f w ≤ total f xs
  total_two [] i j v w e g apart = absurd (some-ne-none v (sym e))
  total_two (x ∷ xs) zero zero v w e g apart = absurd (apart refl)
  total_two (x ∷ xs) zero (suc j) v w e g apart = let same : f x ≡ f v = ap f (some-injective x v e) in let h = total_one xs j w g in omega arith
  total_two (x ∷ xs) (suc i) zero v w e g apart = let same : f x ≡ f w = ap f (some-injective x w g) in let h = total_one xs i v e in omega arith
  total_two (x ∷ xs) (suc i) (suc j) v w e g apart = let h = total_two xs i j v w e g (λ same. apart (ap suc same)) in omega arith

module _ {A : Type 0} where
  pub set_same : (xs : List A) (i : ℕ) (v w : A) → get_elem? xs i ≡ some v → get_elem? (set xs i w) i ≡ some w
  set_same [] i v w e = absurd (some-ne-none v (sym e))
  set_same (x ∷ xs) zero v w e = refl
  set_same (x ∷ xs) (suc i) v w e = set_same xs i v w e

  pub at_end : (xs : List A) (a b : A) (j : ℕ) → get_elem? (xs ++ a ∷ []) j ≡ some b → (get_elem? xs j ≡ some b) ⊎ ((j ≡ length xs) × (a ≡ b))
  at_end [] a b zero e = inr (refl, some-injective a b e)
  at_end [] a b (suc j) e = absurd (some-ne-none b (sym e))
  at_end (x ∷ xs) a b zero e = inl e
  at_end (x ∷ xs) a b (suc j) e = elim (at_end xs a b j e) as (λ _. (get_elem? xs j ≡ some b) ⊎ ((suc j ≡ suc (length xs)) × (a ≡ b))) [ inl p ↦ inl p | inr p ↦ inr (ap suc p.0, p.1) ]

  pub set_one : (xs : List A) (a : A) → length xs ≡ 1 → set xs 0 a ≡ a ∷ []
  set_one [] a e = absurd (omega arith)
  set_one (x ∷ []) a e = refl
  set_one (x ∷ y ∷ ys) a e = absurd (omega arith)

  pub one_item : (xs : List A) (a : A) → length xs ≡ 1 → get_elem? xs 0 ≡ some a → xs ≡ a ∷ []
  one_item [] a e g = absurd (omega arith)
  one_item (x ∷ []) a e g = ap (λ (y : A). y ∷ []) (some-injective x a g)
  one_item (x ∷ y ∷ ys) a e g = absurd (omega arith)

-- what was added to a history that is as it was, or has one entry more
pub next_is : (n : ℕ) (seen told : List ℕ) → IsNext n seen told → (told ≡ seen ++ drop (length seen) told) × AllOf n (drop (length seen) told)
next_is n seen told (inl same) =
    let none : drop (length seen) told ≡ [] = ap (λ (l : List ℕ). drop (length seen) l) same ∙ drop-length seen in
    (same ∙ (sym (append-nil seen) ∙ ap (λ (l : List ℕ). seen ++ l) (sym none)), subst (AllOf n) (sym none) tt)
next_is n seen told (inr h) =
    let one : drop (length seen) told ≡ h.0 ∷ [] = ap (λ (l : List ℕ). drop (length seen) l) h.1 ∙ drop-append_seam seen (h.0 ∷ []) in
    (h.1 ∙ ap (λ (l : List ℕ). seen ++ l) (sym one), subst (AllOf n) (sym one) (h.2, tt))

pub next_own : (n : ℕ) (seen told own : List ℕ) → IsNext n seen told → own ≡ entries_of n seen → own ++ drop (length seen) told ≡ entries_of n told
next_own n seen told own next is =
    let k = next_is n seen told next in
    let d : List ℕ = drop (length seen) told in
    ap (λ (l : List ℕ). l ++ d) is ∙ (ap (λ (l : List ℕ). entries_of n seen ++ l) (sym (entries_all n d k.1)) ∙ (sym (entries-append n seen d) ∙ ap (entries_of n) (sym k.0)))
