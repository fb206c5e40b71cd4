-- Two leaves, each in the other's place.
use Rattle.std.proofs.Common.{◌≡◌, ℕ, ◌<◌, ◌≤◌, List, [], ◌∷◌, length, get_or, set, map, swap, refl, sym, ap, ◌∙◌, arith}
use Rattle.std.proofs.lemmas.List.Edits.{swapped_from_swap}
use Rattle.std.proofs.lemmas.List.{map-set}
use Rattle.std.proofs.Math.ListN.{get_or-map}
use Rattle.std.proofs.lemmas.Bool.Decides.{nat_tests}
use native.Mathlib.Decide.{ℕ_discrete}
use Rattle.pld_place.specs.Exchanges.{traded}

pub twice : (a b leaf : ℕ) → traded a b (traded a b leaf) ≡ leaf
twice a b leaf = grind (arith, nat_tests)

pub traded_within : (a b last leaf : ℕ) → a ≤ last → b ≤ last → leaf ≤ last → traded a b leaf ≤ last
traded_within a b last leaf p q l = grind (arith, nat_tests)

pub swapped_at : {X : Type 0} (xs : List X) (a b : ℕ) (d : X) → a < length xs → b < length xs → (i : ℕ) → get_or (swap xs a b) i d ≡ get_or xs (traded a b i) d
swapped_at {X} xs a b d p q i =
    let w = swapped_from_swap xs _ a b d p q refl in
    let read = λ (n : ℕ) (e : traded a b i ≡ n). ap (λ k. get_or xs k d) e in
    elim (ℕ_discrete i a) [
      | yes e ↦ ap (λ k. get_or (swap xs a b) k d) e ∙ w.0 ∙ sym (read b (grind (arith, nat_tests)))
      | no n ↦ elim (ℕ_discrete i b) [
        | yes e ↦ ap (λ k. get_or (swap xs a b) k d) e ∙ w.1 ∙ sym (read a (grind (arith, nat_tests)))
        | no m ↦ w.2 i n m ∙ sym (read i (grind (arith, nat_tests)))
      ]
    ]

pub map_swapped : {X Y : Type 0} (f : X → Y) (xs : List X) (i j : ℕ) → map f (swap xs i j) ≡ swap (map f xs) i j
map_swapped f [] i j = refl
map_swapped f (x ∷ xs) i j =
    map-set f _ j _ ∙ (λ z. set (map-set f (x ∷ xs) i (get_or (x ∷ xs) j x) z) j (sym (get_or-map f (x ∷ xs) i x) z))
    ∙ ap (λ y. set (set (map f (x ∷ xs)) i y) j (get_or (map f (x ∷ xs)) i (f x))) (sym (get_or-map f (x ∷ xs) j x))
