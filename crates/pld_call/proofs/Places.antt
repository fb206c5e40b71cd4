-- Places of names in two lists, one behind the other.
use Rattle.std.proofs.Common.{◌≡◌, ℕ, suc, ◌≤◌, ◌<◌, ◌+◌, List, [], ◌∷◌, ◌++◌, length, map, refl, sym, ap, ◌∙◌, arith, Bool, true, false}
use Rattle.std.specs.Prelude.{cond, not}
use Rattle.std.specs.Str.{bytes_eq}
use Rattle.std.proofs.lemmas.List.{map-append, length-map}
use Rattle.pld_ast.specs.declared.tree.Scalar.{Scalar}
use Rattle.pld_ast.specs.Resolve.{place_in}

within : (xs ys : List (List ℕ)) (n : List ℕ) → place_in xs n < length xs → place_in (xs ++ ys) n ≡ place_in xs n
within [] ys n lt = absurd (omega arith)
within (x ∷ xs) ys n lt = by (bytes_eq x n) (λ below. within xs ys n below) lt
  where
    by : (t : Bool) → (place_in xs n < length xs → place_in (xs ++ ys) n ≡ place_in xs n) → (cond (not t) (1 + place_in xs n) 0) < suc (length xs) → (cond (not t) (1 + place_in (xs ++ ys) n) 0) ≡ (cond (not t) (1 + place_in xs n) 0)
    by true h below = refl
    by false h below = ap (λ k. 1 + k) (h (omega arith))

past : (xs ys : List (List ℕ)) (n : List ℕ) → length xs ≤ place_in xs n → place_in (xs ++ ys) n ≡ place_in xs n + place_in ys n
past [] ys n le = omega arith
past (x ∷ xs) ys n le = by (bytes_eq x n) (λ above. past xs ys n above) le
  where
    by : (t : Bool) → (length xs ≤ place_in xs n → place_in (xs ++ ys) n ≡ place_in xs n + place_in ys n) → suc (length xs) ≤ (cond (not t) (1 + place_in xs n) 0) → (cond (not t) (1 + place_in (xs ++ ys) n) 0) ≡ (cond (not t) (1 + place_in xs n) 0) + place_in ys n
    by true h above = absurd (omega arith)
    by false h above = let e = h (omega arith) in omega (arith, e)

abbrev place : List Scalar → List ℕ → ℕ
place ss n = place_in (map (λ s. s.name) ss) n

pub place_first : (xs ys : List Scalar) (n : List ℕ) → place xs n < length xs → place xs n ≡ place (xs ++ ys) n
place_first xs ys n lt =
    let m = length-map xs (λ s. s.name) in
    sym (ap (λ l. place_in l n) (map-append (λ s. s.name) xs ys) ∙ within (map (λ s. s.name) xs) (map (λ s. s.name) ys) n (omega (arith, m, lt)))

pub place_second : (xs ys : List Scalar) (n : List ℕ) → length xs ≤ place xs n → place xs n + place ys n ≡ place (xs ++ ys) n
place_second xs ys n le =
    let m = length-map xs (λ s. s.name) in
    sym (ap (λ l. place_in l n) (map-append (λ s. s.name) xs ys) ∙ past (map (λ s. s.name) xs) (map (λ s. s.name) ys) n (omega (arith, m, le)))
