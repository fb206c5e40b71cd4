-- The place of a name, as a loop over the names finds it.
use Rattle.std.proofs.Common.{◌≡◌, ℕ, zero, suc, ◌+◌, ◌<◌, ◌≤◌, true, false, List, [], ◌∷◌, length, map, refl, sym, ap, ◌∙◌, arith, Some, None, subst, below_more}
use Rattle.std.specs.Prelude.{bytes_eq, slice_get, slice_index, slice_index_or}
use Rattle.std.proofs.lemmas.List.Sums.{position_or_len_is}
use Rattle.std.proofs.lemmas.Option.{get_or_from_slice_get, gets}
use Rattle.std.proofs.lemmas.List.{length-map}
use Rattle.std.proofs.lemmas.Grind.{common_steps}
use Rattle.pld_base.specs.declared.event.PageId.{PageId}
use Rattle.pld_graph.specs.declared.parts.OperatorEntry.{OperatorEntry}
use Rattle.pld_graph.specs.Design.{Design, operator_at}
use Rattle.pld_link.specs.Seats.{place_in, operator_names, numbers, leaf_of, IsPlacement}

-- none of the first k has this name
abbrev pub NoneBefore : List (List ℕ) → List ℕ → ℕ → Type 0
NoneBefore names name k = (j : ℕ) → j < k → bytes_eq (slice_index_or names j []) name ≡ false

pub place_found : (names : List (List ℕ)) (name found : List ℕ) (k : ℕ) → k < length names → NoneBefore names name k
    → slice_get names k ≡ Some found → bytes_eq found name ≡ true → place_in names name ≡ k
place_found names name found k few none here same =
    position_or_len_is (λ n. bytes_eq n name) names k [] (omega (arith, few)) none
    (λ l. subst (λ n. bytes_eq n name ≡ true) (sym (get_or_from_slice_get names k found [] here)) same)

pub place_past : (names : List (List ℕ)) (name : List ℕ) (k : ℕ) → k ≡ length names → NoneBefore names name k → place_in names name ≡ k
place_past names name k all none =
    position_or_len_is (λ n. bytes_eq n name) names k [] (omega (arith, all)) none (λ l. absurd (omega (arith, all, l)))

pub none_more : (names : List (List ℕ)) (name found : List ℕ) (k : ℕ) → NoneBefore names name k
    → slice_get names k ≡ Some found → bytes_eq found name ≡ false → NoneBefore names name (k + 1)
none_more names name found k none here other =
    below_more (λ j. bytes_eq (slice_index_or names j []) name ≡ false) k none
    (subst (λ n. bytes_eq n name ≡ false) (sym (get_or_from_slice_get names k found [] here)) other)

-- a list has an element at each place below its length
pub some_there : (names : List (List ℕ)) (k : ℕ) → k < length names → slice_get names k ≡ None → ⊥
some_there names k few none = grind (arith, gets)

pub name_at : (d : Design) (k : ℕ) → k < length d.operators → slice_get (operator_names d) k ≡ Some (operator_at d.operators k).name
name_at d k few = grind (arith, common_steps, gets)

pub leaf_at : (pages : List PageId) (k : ℕ) → slice_index (numbers pages) k ≡ (slice_index_or pages k (record { 0 = 0 })).0
leaf_at [] k = refl
leaf_at (p ∷ ps) zero = refl
leaf_at (p ∷ ps) (suc k) = leaf_at ps k

pub length-numbers : (pages : List PageId) → length (numbers pages) ≡ length pages
length-numbers [] = refl
length-numbers (p ∷ ps) = ap suc (length-numbers ps)

pub most_at : (d : Design) (pages : List PageId) (k : ℕ) → IsPlacement d (numbers pages) → k < length pages → (slice_index_or pages k (record { 0 = 0 })).0 ≤ 63
most_at d pages k placed few =
    let within : k < length (numbers pages) = omega (arith, few, length-numbers pages) in
    let most : slice_index (numbers pages) k ≤ 63 = (placed.pages k 0 within).1 in
    omega (arith, most, leaf_at pages k)

pub index_past : (xs : List ℕ) (k : ℕ) → length xs ≤ k → 0 ≡ slice_index xs k
index_past [] k past = refl
index_past (x ∷ xs) zero past = absurd (omega (arith, past))
index_past (x ∷ xs) (suc k) past = index_past xs k (omega (arith, past))

pub length-names : (os : List OperatorEntry) → length (map (λ o. o.name) os) ≡ length os
length-names os = length-map os (λ o. o.name)

pub leaf_found : (d : Design) (pages : List PageId) (name : List ℕ) (k : ℕ) → IsPlacement d (numbers pages) → k < length pages → NoneBefore (operator_names d) name k
    → bytes_eq (operator_at d.operators k).name name ≡ true → (slice_index_or pages k (record { 0 = 0 })).0 ≡ leaf_of d (numbers pages) name
leaf_found d pages name k placed few none same =
    let each = placed.each in
    let there : k < length d.operators = omega (arith, few, each, length-numbers pages) in
    let within : k < length (operator_names d) = omega (arith, there, length-names d.operators) in
    let place = place_found (operator_names d) name (operator_at d.operators k).name k within none (name_at d k there) same in
    sym (leaf_at pages k) ∙ ap (λ j. slice_index (numbers pages) j) (sym place)

pub leaf_none : (d : Design) (pages : List PageId) (name : List ℕ) (k : ℕ) → IsPlacement d (numbers pages) → k ≡ length pages → NoneBefore (operator_names d) name k
    → 0 ≡ leaf_of d (numbers pages) name
leaf_none d pages name k placed all none =
    let each = placed.each in
    let names : k ≡ length (operator_names d) = omega (arith, all, each, length-numbers pages, length-names d.operators) in
    let place = place_past (operator_names d) name k names none in
    index_past (numbers pages) (place_in (operator_names d) name) (omega (arith, place, all, length-numbers pages))

pub none_more_operators : (d : Design) (pages : List PageId) (name : List ℕ) (k : ℕ) → IsPlacement d (numbers pages) → k < length pages → NoneBefore (operator_names d) name k
    → bytes_eq (operator_at d.operators k).name name ≡ false → NoneBefore (operator_names d) name (k + 1)
none_more_operators d pages name k placed few none other =
    let each = placed.each in
    let there : k < length d.operators = omega (arith, few, each, length-numbers pages) in
    none_more (operator_names d) name (operator_at d.operators k).name k none (name_at d k there) other

pub below_count : (names : List (List ℕ)) (count k : ℕ) → count ≡ length names → k < count → k < length names
below_count names count k all few = omega (arith, all, few)
