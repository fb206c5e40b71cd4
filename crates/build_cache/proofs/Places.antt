-- Misses are the first places of the pairs that aren't kept.
use Rattle.std.proofs.Common.{◌≡◌, ◌⊎◌, ℕ, ◌+◌, ◌≤◌, Bool, true, false, true≢false, ◌||◌, List, [], ◌∷◌, ◌++◌, map, take, length, Contains, refl, sym, ap, ◌∙◌, subst, arith, if◌then◌else◌, inl, inr, nat_lt}
use Rattle.std.proofs.lemmas.Bool.Decides.{nat_tests}
use Rattle.std.specs.List.{AllByRecursion}
use Rattle.std.proofs.lemmas.List.{append_assoc, length-append}
use Rattle.std.proofs.lemmas.List.Folds.{list_any-append}
use Rattle.std.proofs.lemmas.List.Elements.{Contains-get_or, Contains-append_right}
use Rattle.build_cache.specs.Pairs.{Pair, same_pair, is_among, pair_at, misses_from, misses, IsFirstMiss}
use Rattle.build_cache.specs.Keys.{one_pair}

-- with what was seen, as much is there as with what stands before
abbrev AsMuch : List Pair → List Pair → List Pair → Type 0
AsMuch kept seen before = (p : Pair) → (is_among p kept || is_among p seen) ≡ (is_among p kept || is_among p before)

pub at_seam : (xs : List Pair) (p : Pair) (ys : List Pair) → pair_at (xs ++ p ∷ ys) (length xs) ≡ p
at_seam [] p ys = refl
at_seam (x ∷ xs) p ys = at_seam xs p ys

take_seam : (xs ys : List Pair) → take (length xs) (xs ++ ys) ≡ xs
take_seam [] ys = refl
take_seam (x ∷ xs) ys = ap (λ zs. x ∷ zs) (take_seam xs ys)

pub length_one : (xs : List Pair) (p : Pair) → length (xs ++ p ∷ []) ≡ length xs + 1
length_one xs p = length-append xs (p ∷ [])

or_none : (b : Bool) → (b || false) ≡ b
or_none true = refl
or_none false = refl

or_group : (a b c : Bool) → (a || (b || c)) ≡ ((a || b) || c)
or_group true b c = refl
or_group false b c = refl

both_false : (a b : Bool) → (a || b) ≡ false → (a ≡ false) × (b ≡ false)
both_false true b e = absurd (true≢false e)
both_false false b e = (refl, e)

one_more : (p q : Pair) (xs : List Pair) → is_among p (xs ++ q ∷ []) ≡ (is_among p xs || same_pair p q)
one_more p q xs = list_any-append (same_pair p) xs (q ∷ []) ∙ ap (λ b. is_among p xs || b) (or_none (same_pair p q))

-- a pair that was seen adds nothing
seen_by : (kept seen : List Pair) (p q : Pair) (b : Bool) → same_pair p q ≡ b → (is_among q kept || is_among q seen) ≡ true → (is_among p kept || is_among p seen) ≡ ((is_among p kept || is_among p seen) || b)
seen_by kept seen p q false e there = sym (or_none _)
seen_by kept seen p q true e there =
    let here : (is_among p kept || is_among p seen) ≡ true = ap (λ r. is_among r kept || is_among r seen) (one_pair p q e) ∙ there in
    here ∙ ap (λ b. b || true) (sym here)

stay : (kept seen before : List Pair) (q : Pair) → AsMuch kept seen before → (is_among q kept || is_among q seen) ≡ true → AsMuch kept seen (before ++ q ∷ [])
stay kept seen before q same there = λ p.
    seen_by kept seen p q (same_pair p q) refl there ∙ ap (λ b. b || same_pair p q) (same p) ∙ sym (or_group (is_among p kept) (is_among p before) (same_pair p q))
    ∙ ap (λ b. is_among p kept || b) (sym (one_more p q before))

grow : (kept seen before : List Pair) (q : Pair) → AsMuch kept seen before → AsMuch kept (seen ++ q ∷ []) (before ++ q ∷ [])
grow kept seen before q same = λ p.
    ap (λ b. is_among p kept || b) (one_more p q seen) ∙ or_group (is_among p kept) (is_among p seen) (same_pair p q) ∙ ap (λ b. b || same_pair p q) (same p)
    ∙ sym (or_group (is_among p kept) (is_among p before) (same_pair p q)) ∙ ap (λ b. is_among p kept || b) (sym (one_more p q before))

-- the first one of the rest, where it is a miss
miss_here : (kept seen before : List Pair) (p : Pair) (ps : List Pair) (n : ℕ) → n ≡ length before → AsMuch kept seen before → (is_among p kept || is_among p seen) ≡ false → IsFirstMiss kept (before ++ p ∷ ps) n
miss_here kept seen before p ps n at same new =
    let here : pair_at (before ++ p ∷ ps) n ≡ p = ap (pair_at (before ++ p ∷ ps)) at ∙ at_seam before p ps in
    let front : take n (before ++ p ∷ ps) ≡ before = ap (λ m. take m (before ++ p ∷ ps)) at ∙ take_seam before (p ∷ ps) in
    let none = both_false (is_among p kept) (is_among p before) (sym (same p) ∙ new) in
    let all : length (before ++ p ∷ ps) ≡ length before + length (p ∷ ps) = length-append before (p ∷ ps) in
    record {
      within = omega (arith, at, all);
      lacking = ap (λ q. is_among q kept) here ∙ none.0;
      first = (λ i. is_among (here i) (front i)) ∙ none.1;
    }

abbrev Sound : List Pair → List Pair → List Pair → List Pair → ℕ → Type 0
Sound kept seen before ps n = AllByRecursion (IsFirstMiss kept (before ++ ps)) (misses_from n kept seen ps)

sound_at : (kept seen before : List Pair) (p : Pair) (ps : List Pair) (n : ℕ) (b : Bool) → (is_among p kept || is_among p seen) ≡ b → n ≡ length before → AsMuch kept seen before
    → ((is_among p kept || is_among p seen) ≡ true → Sound kept seen (before ++ p ∷ []) ps (n + 1)) → Sound kept (seen ++ p ∷ []) (before ++ p ∷ []) ps (n + 1)
    → AllByRecursion (IsFirstMiss kept (before ++ p ∷ ps)) (if b then misses_from (n + 1) kept seen ps else n ∷ misses_from (n + 1) kept (seen ++ p ∷ []) ps)
sound_at kept seen before p ps n true e at same skipped taken = subst (λ l. AllByRecursion (IsFirstMiss kept l) (misses_from (n + 1) kept seen ps)) (append_assoc before (p ∷ []) ps) (skipped e)
sound_at kept seen before p ps n false e at same skipped taken =
    (miss_here kept seen before p ps n at same e, subst (λ l. AllByRecursion (IsFirstMiss kept l) (misses_from (n + 1) kept (seen ++ p ∷ []) ps)) (append_assoc before (p ∷ []) ps) taken)

sound_from : (kept seen before ps : List Pair) (n : ℕ) → n ≡ length before → AsMuch kept seen before → Sound kept seen before ps n
sound_from kept seen before [] n at same = tt
sound_from kept seen before (p ∷ ps) n at same =
    let next : n + 1 ≡ length (before ++ p ∷ []) = ap (λ m. m + 1) at ∙ sym (length_one before p) in
    sound_at kept seen before p ps n (is_among p kept || is_among p seen) refl at same
    (λ there. sound_from kept seen (before ++ p ∷ []) ps (n + 1) next (stay kept seen before p same there))
    (sound_from kept (seen ++ p ∷ []) (before ++ p ∷ []) ps (n + 1) next (grow kept seen before p same))

-- the misses among pairs are first places
pub sound : (kept ps : List Pair) → AllByRecursion (IsFirstMiss kept ps) (misses kept ps)
sound kept ps = sound_from kept [] [] ps 0 refl (λ p. refl)

-- what a place has, the misses have
abbrev Complete : List Pair → List Pair → List Pair → List Pair → ℕ → Type 0
Complete kept seen before ps n = (k : ℕ) → IsFirstMiss kept (before ++ ps) k → n ≤ k → Contains (misses_from n kept seen ps) k

no_miss : (kept before : List Pair) (p : Pair) (ps seen : List Pair) (n k : ℕ) → n ≡ length before → AsMuch kept seen before → (is_among p kept || is_among p seen) ≡ true → IsFirstMiss kept (before ++ p ∷ ps) k → k ≡ n → ⊥
no_miss kept before p ps seen n k at same there m e =
    let place : k ≡ length before = e ∙ at in
    let here : pair_at (before ++ p ∷ ps) k ≡ p = ap (pair_at (before ++ p ∷ ps)) place ∙ at_seam before p ps in
    let front : take k (before ++ p ∷ ps) ≡ before = ap (λ j. take j (before ++ p ∷ ps)) place ∙ take_seam before (p ∷ ps) in
    let lacking : is_among p kept ≡ false = ap (λ q. is_among q kept) (sym here) ∙ m.lacking in
    let first : is_among p before ≡ false = (λ i. is_among (sym here i) (sym front i)) ∙ m.first in
    true≢false (sym there ∙ same p ∙ (λ i. lacking i || first i))

complete_at : (kept seen before : List Pair) (p : Pair) (ps : List Pair) (n k : ℕ) (b : Bool) → (is_among p kept || is_among p seen) ≡ b → n ≡ length before → AsMuch kept seen before → IsFirstMiss kept (before ++ p ∷ ps) k → n ≤ k
    → ((is_among p kept || is_among p seen) ≡ true → Complete kept seen (before ++ p ∷ []) ps (n + 1)) → Complete kept (seen ++ p ∷ []) (before ++ p ∷ []) ps (n + 1) → (k ≡ n) ⊎ (n + 1 ≤ k)
    → Contains (if b then misses_from (n + 1) kept seen ps else n ∷ misses_from (n + 1) kept (seen ++ p ∷ []) ps) k
complete_at kept seen before p ps n k true e at same m past skipped taken (inl here) = absurd (no_miss kept before p ps seen n k at same e m here)
complete_at kept seen before p ps n k true e at same m past skipped taken (inr later) = skipped e k (subst (λ l. IsFirstMiss kept l k) (sym (append_assoc before (p ∷ []) ps)) m) later
complete_at kept seen before p ps n k false e at same m past skipped taken (inl here) = subst (Contains (n ∷ misses_from (n + 1) kept (seen ++ p ∷ []) ps)) (sym here) (Contains-get_or (n ∷ misses_from (n + 1) kept (seen ++ p ∷ []) ps) 0 n (omega arith))
complete_at kept seen before p ps n k false e at same m past skipped taken (inr later) =
    Contains-append_right (n ∷ []) (misses_from (n + 1) kept (seen ++ p ∷ []) ps) k (taken k (subst (λ l. IsFirstMiss kept l k) (sym (append_assoc before (p ∷ []) ps)) m) later)

here_or_later : (n k : ℕ) → n ≤ k → (k ≡ n) ⊎ (n + 1 ≤ k)
here_or_later n k l = by (nat_lt n k) refl
  where
    by : (b : Bool) → nat_lt n k ≡ b → (k ≡ n) ⊎ (n + 1 ≤ k)
    by true e = inr (grind (arith, nat_tests, e))
    by false e = inl (grind (arith, nat_tests, e, l))

complete_from : (kept seen before ps : List Pair) (n : ℕ) → n ≡ length before → AsMuch kept seen before → Complete kept seen before ps n
complete_from kept seen before [] n at same = λ k m past.
    let all : length (before ++ []) ≡ length before + 0 = length-append before [] in
    let within = m.within in
    absurd (omega (arith, within, all, at, past))
complete_from kept seen before (p ∷ ps) n at same = λ k m past.
    let next : n + 1 ≡ length (before ++ p ∷ []) = ap (λ j. j + 1) at ∙ sym (length_one before p) in
    complete_at kept seen before p ps n k (is_among p kept || is_among p seen) refl at same m past
    (λ there. complete_from kept seen (before ++ p ∷ []) ps (n + 1) next (stay kept seen before p same there))
    (complete_from kept (seen ++ p ∷ []) (before ++ p ∷ []) ps (n + 1) next (grow kept seen before p same)) (here_or_later n k past)

-- each first place is among the misses
pub complete : (kept ps : List Pair) (k : ℕ) → IsFirstMiss kept ps k → Contains (misses kept ps) k
complete kept ps k m = complete_from kept [] [] ps 0 refl (λ p. refl) k m (omega arith)

-- what a list of misses adds
abbrev Covered : List Pair → List Pair → List Pair → List Pair → ℕ → Pair → Type 0
Covered kept seen before ps n q = ((is_among q kept || is_among q seen) || is_among q (map (pair_at (before ++ ps)) (misses_from n kept seen ps))) ≡ ((is_among q kept || is_among q seen) || is_among q ps)

covered_at : (kept seen before : List Pair) (p : Pair) (ps : List Pair) (n : ℕ) (q : Pair) (b : Bool) → (is_among p kept || is_among p seen) ≡ b → n ≡ length before
    → Covered kept seen (before ++ p ∷ []) ps (n + 1) q → Covered kept (seen ++ p ∷ []) (before ++ p ∷ []) ps (n + 1) q
    → ((is_among q kept || is_among q seen) || is_among q (map (pair_at (before ++ p ∷ ps)) (if b then misses_from (n + 1) kept seen ps else n ∷ misses_from (n + 1) kept (seen ++ p ∷ []) ps))) ≡ ((is_among q kept || is_among q seen) || is_among q (p ∷ ps))
covered_at kept seen before p ps n q true e at skipped taken =
    let x = is_among q kept || is_among q seen in
    ap (λ l. x || is_among q (map (pair_at l) (misses_from (n + 1) kept seen ps))) (sym (append_assoc before (p ∷ []) ps)) ∙ skipped
    ∙ ap (λ b. b || is_among q ps) (seen_by kept seen q p (same_pair q p) refl e) ∙ sym (or_group x (same_pair q p) (is_among q ps))
covered_at kept seen before p ps n q false e at skipped taken =
    let x = is_among q kept || is_among q seen in
    let s = same_pair q p in
    let rest : ℕ → List Pair → Bool = λ m l. is_among q (map (pair_at l) (misses_from (n + 1) kept (seen ++ p ∷ []) ps)) in
    let more : (is_among q kept || is_among q (seen ++ p ∷ [])) ≡ (x || s) = ap (λ b. is_among q kept || b) (one_more q p seen) ∙ or_group (is_among q kept) (is_among q seen) s in
    let here : pair_at (before ++ p ∷ ps) n ≡ p = ap (pair_at (before ++ p ∷ ps)) at ∙ at_seam before p ps in
    ap (λ r. x || (same_pair q r || rest 0 (before ++ p ∷ ps))) here
    ∙ or_group x s (rest 0 (before ++ p ∷ ps))
    ∙ (λ i. sym more i || rest 0 (sym (append_assoc before (p ∷ []) ps) i))
    ∙ taken
    ∙ ap (λ b. b || is_among q ps) more
    ∙ sym (or_group x s (is_among q ps))

covered_from : (kept seen before ps : List Pair) (n : ℕ) (q : Pair) → n ≡ length before → Covered kept seen before ps n q
covered_from kept seen before [] n q at = refl
covered_from kept seen before (p ∷ ps) n q at =
    let next : n + 1 ≡ length (before ++ p ∷ []) = ap (λ j. j + 1) at ∙ sym (length_one before p) in
    covered_at kept seen before p ps n q (is_among p kept || is_among p seen) refl at
    (covered_from kept seen (before ++ p ∷ []) ps (n + 1) q next) (covered_from kept (seen ++ p ∷ []) (before ++ p ∷ []) ps (n + 1) q next)

-- with the misses each pair is kept
pub covered : (kept ps : List Pair) (p : Pair) → (is_among p kept || is_among p (map (pair_at ps) (misses kept ps))) ≡ (is_among p kept || is_among p ps)
covered kept ps p =
    ap (λ b. b || is_among p (map (pair_at ps) (misses kept ps))) (sym (or_none (is_among p kept))) ∙ covered_from kept [] [] ps 0 p refl ∙ ap (λ b. b || is_among p ps) (or_none (is_among p kept))
