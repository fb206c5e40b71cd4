-- The leaves without a pin stand in order.
use Rattle.std.proofs.Common.{◌≡◌, ℕ, zero, suc, ◌+◌, ◌<◌, ◌≤◌, Bool, true, false, cond, not, List, ◌∷◌, length, filter, sym, subst, arith}
use Rattle.std.specs.Prelude.{slice_index_or}
use Rattle.std.specs.List.{range_with_len}
use Rattle.pld_place.specs.Placing.{is_among, movable_among}
use Rattle.pld_place.specs.Touching.{AreAscending}

abbrev at : List ℕ → ℕ → ℕ
at leaves k = slice_index_or leaves k 0

abbrev free_from : List ℕ → ℕ → ℕ → List ℕ
free_from pinned n k = filter (λ leaf. not (is_among pinned leaf)) (range_with_len n k)

within_from : (pinned : List ℕ) (n k j : ℕ) → j < length (free_from pinned n k) → (n ≤ at (free_from pinned n k) j) × (at (free_from pinned n k) j < n + k)
within_from pinned n zero j few = absurd (omega (arith, few))
within_from pinned n (suc k) j few = by (is_among pinned n) j few (within_from pinned (n + 1) k)
  where
    by : (t : Bool) (i : ℕ) → i < length (cond (not t) (n ∷ free_from pinned (n + 1) k) (free_from pinned (n + 1) k))
        → ((m : ℕ) → m < length (free_from pinned (n + 1) k) → (n + 1 ≤ at (free_from pinned (n + 1) k) m) × (at (free_from pinned (n + 1) k) m < n + 1 + k))
        → (n ≤ at (cond (not t) (n ∷ free_from pinned (n + 1) k) (free_from pinned (n + 1) k)) i) × (at (cond (not t) (n ∷ free_from pinned (n + 1) k) (free_from pinned (n + 1) k)) i < n + suc k)
    by true i l rest = let w = rest i l in (omega (arith, w.0), omega (arith, w.1))
    by false zero l rest = (omega arith, omega arith)
    by false (suc i) l rest = let w = rest i (omega (arith, l)) in (omega (arith, w.0), omega (arith, w.1))

in_order : (pinned : List ℕ) (n k i j : ℕ) → i < j → j < length (free_from pinned n k) → at (free_from pinned n k) i < at (free_from pinned n k) j
in_order pinned n zero i j less few = absurd (omega (arith, few))
in_order pinned n (suc k) i j less few = by (is_among pinned n) i j less few (in_order pinned (n + 1) k)
  where
    by : (t : Bool) (x y : ℕ) → x < y → y < length (cond (not t) (n ∷ free_from pinned (n + 1) k) (free_from pinned (n + 1) k))
        → ((x' y' : ℕ) → x' < y' → y' < length (free_from pinned (n + 1) k) → at (free_from pinned (n + 1) k) x' < at (free_from pinned (n + 1) k) y')
        → at (cond (not t) (n ∷ free_from pinned (n + 1) k) (free_from pinned (n + 1) k)) x < at (cond (not t) (n ∷ free_from pinned (n + 1) k) (free_from pinned (n + 1) k)) y
    by true x y l f rest = rest x y l f
    by false x zero l f rest = absurd (omega (arith, l))
    by false zero (suc y) l f rest = let w = within_from pinned (n + 1) k y (omega (arith, f)) in omega (arith, w.0)
    by false (suc x) (suc y) l f rest = rest x y (omega (arith, l)) (omega (arith, f))

pub movable_ascends : (pinned : List ℕ) (last : ℕ) → AreAscending last (movable_among pinned last)
movable_ascends pinned last = record {
  within = λ i l. let w = within_from pinned 1 last i l in (w.0, omega (arith, w.1));
  order = in_order pinned 1 last;
}

pub ascends : (last : ℕ) (pinned leaves : List ℕ) → leaves ≡ movable_among pinned last → AreAscending last leaves
ascends last pinned leaves is = subst (AreAscending last) (sym is) (movable_ascends pinned last)
