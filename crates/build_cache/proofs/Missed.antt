-- The pairs that are missed: no more than there are pairs, and each new behind those before it.
use Rattle.std.proofs.Common.{◌≡◌, ℕ, ◌+◌, ◌≤◌, Bool, true, false, ◌||◌, List, [], ◌∷◌, ◌++◌, map, length, refl, sym, ap, ◌∙◌, subst, arith, if◌then◌else◌}
use Rattle.std.specs.Bool.{⊤}
use Rattle.std.proofs.lemmas.List.{append_assoc, append-nil}
use Rattle.std.proofs.lemmas.List.Folds.{list_any-append}
use Rattle.build_cache.specs.Pairs.{Pair, same_pair, is_among, pair_at, misses_from, misses, missed}
use Rattle.build_cache.proofs.Places.{at_seam, length_one}

few_at : (kept seen : List Pair) (p : Pair) (ps : List Pair) (n : ℕ) (b : Bool) → length (misses_from (n + 1) kept seen ps) ≤ length ps
    → length (misses_from (n + 1) kept (seen ++ p ∷ []) ps) ≤ length ps
    → length (if b then misses_from (n + 1) kept seen ps else n ∷ misses_from (n + 1) kept (seen ++ p ∷ []) ps) ≤ length (p ∷ ps)
few_at kept seen p ps n true skipped taken = omega (arith, skipped)
few_at kept seen p ps n false skipped taken = omega (arith, taken)

few_from : (kept seen ps : List Pair) (n : ℕ) → length (misses_from n kept seen ps) ≤ length ps
few_from kept seen [] n = omega arith
few_from kept seen (p ∷ ps) n = few_at kept seen p ps n (is_among p kept || is_among p seen) (few_from kept seen ps (n + 1)) (few_from kept (seen ++ p ∷ []) ps (n + 1))

-- no more are missed than there are
pub few : (kept ps : List Pair) → length (misses kept ps) ≤ length ps
few kept ps = few_from kept [] ps 0

-- each pair is new: it isn't among the kept ones, nor among those before it
abbrev pub AreNew : List Pair → List Pair → Type 0
AreNew kept [] = ⊤
AreNew kept (p ∷ ps) = (is_among p kept ≡ false) × AreNew (kept ++ p ∷ []) ps

new_at : (kept seen before : List Pair) (p : Pair) (ps : List Pair) (n : ℕ) (b : Bool) → (is_among p kept || is_among p seen) ≡ b → n ≡ length before
    → AreNew (kept ++ seen) (map (pair_at ((before ++ p ∷ []) ++ ps)) (misses_from (n + 1) kept seen ps))
    → AreNew (kept ++ (seen ++ p ∷ [])) (map (pair_at ((before ++ p ∷ []) ++ ps)) (misses_from (n + 1) kept (seen ++ p ∷ []) ps))
    → AreNew (kept ++ seen) (map (pair_at (before ++ p ∷ ps)) (if b then misses_from (n + 1) kept seen ps else n ∷ misses_from (n + 1) kept (seen ++ p ∷ []) ps))
new_at kept seen before p ps n true e at skipped taken = subst (λ l. AreNew (kept ++ seen) (map (pair_at l) (misses_from (n + 1) kept seen ps))) (append_assoc before (p ∷ []) ps) skipped
new_at kept seen before p ps n false e at skipped taken =
    let here : pair_at (before ++ p ∷ ps) n ≡ p = ap (pair_at (before ++ p ∷ ps)) at ∙ at_seam before p ps in
    let later = misses_from (n + 1) kept (seen ++ p ∷ []) ps in (
      ap (λ q. is_among q (kept ++ seen)) here ∙ list_any-append (same_pair p) kept seen ∙ e,
      subst (λ l. AreNew l (map (pair_at (before ++ p ∷ ps)) later)) (sym (append_assoc kept seen (p ∷ [])) ∙ ap (λ q. (kept ++ seen) ++ q ∷ []) (sym here))
          (subst (λ l. AreNew (kept ++ (seen ++ p ∷ [])) (map (pair_at l) later)) (append_assoc before (p ∷ []) ps) taken),
    )

new_from : (kept seen before ps : List Pair) (n : ℕ) → n ≡ length before → AreNew (kept ++ seen) (map (pair_at (before ++ ps)) (misses_from n kept seen ps))
new_from kept seen before [] n at = tt
new_from kept seen before (p ∷ ps) n at =
    let next : n + 1 ≡ length (before ++ p ∷ []) = ap (λ m. m + 1) at ∙ sym (length_one before p) in
    new_at kept seen before p ps n (is_among p kept || is_among p seen) refl at (new_from kept seen (before ++ p ∷ []) ps (n + 1) next)
    (new_from kept (seen ++ p ∷ []) (before ++ p ∷ []) ps (n + 1) next)

-- the missed pairs are new
pub missed_new : (kept ps : List Pair) → AreNew kept (missed kept ps)
missed_new kept ps = subst (λ l. AreNew l (missed kept ps)) (append-nil kept) (new_from kept [] [] ps 0 refl)
