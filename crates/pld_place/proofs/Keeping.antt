-- What exchanges keep, and what none of them is left for.
use Rattle.std.proofs.Common.{◌≡◌, ℕ, zero, suc, ◌+◌, ◌<◌, ◌≤◌, Bool, true, false, true≢false, cond, not, if◌then◌else◌, List, [], ◌∷◌, filter, refl, sym, ap, subst, ◌∙◌, arith, Option, Some, None}
use Rattle.std.specs.Prelude.{◌==◌, nat_lt, option_map}
use Rattle.std.specs.List.{range_with_len}
use Rattle.std.proofs.lemmas.Bool.Decides.{nat_tests}
use Rattle.std.proofs.lemmas.Option.{none-some, same_Some}
use Rattle.pld_graph.specs.Design.{or_else}
use Rattle.pld_place.specs.declared.ends.Ends.{Ends}
use Rattle.pld_place.specs.Exchanges.{total, lowers, partner, first_pair, exchanged, follow, improved, one_more, made}
use Rattle.pld_place.specs.Placing.{is_among, movable_among}
use Rattle.pld_place.proofs.Free.{is_same}
use Rattle.pld_place.proofs.Settling.{Each}

-- ---- a pair that is found

found_by : (channels : List Ends) (leaves : List ℕ) (P : ℕ → Type 0) (a : ℕ) (bs : List ℕ) (b : ℕ) → Each P bs → partner channels leaves a bs ≡ Some b → P b × (lowers channels leaves a b ≡ true)
found_by channels leaves P a [] b each e = absurd (none-some b e)
found_by channels leaves P a (x ∷ xs) b each e = by (lowers channels leaves a x) refl e (found_by channels leaves P a xs b each.1)
  where
    by : (t : Bool) → lowers channels leaves a x ≡ t → (if t then Some x else partner channels leaves a xs) ≡ Some b
        → (partner channels leaves a xs ≡ Some b → P b × (lowers channels leaves a b ≡ true)) → P b × (lowers channels leaves a b ≡ true)
    by true is g rest = subst (λ y. P y × (lowers channels leaves a y ≡ true)) (same_Some x b g) (each.0, is)
    by false is g rest = rest g

pub record Found (channels : List Ends) (leaves : List ℕ) (P : ℕ → Type 0) (p : ℕ × ℕ) : Type 0 where
  pub first : P p.0
  pub second : P p.1
  pub lower : lowers channels leaves p.0 p.1 ≡ true

pub found_pair : (channels : List Ends) (leaves : List ℕ) (P : ℕ → Type 0) (ms : List ℕ) (p : ℕ × ℕ) → Each P ms → first_pair channels leaves ms ≡ Some p → Found channels leaves P p
found_pair channels leaves P [] p each e = absurd (none-some p e)
found_pair channels leaves P (a ∷ more) p each e = by (partner channels leaves a more) refl e (found_pair channels leaves P more p each.1)
  where
    by : (o : Option ℕ) → partner channels leaves a more ≡ o → or_else (option_map (λ b. (a, b)) o) (first_pair channels leaves more) ≡ Some p
        → (first_pair channels leaves more ≡ Some p → Found channels leaves P p) → Found channels leaves P p
    by None is g rest = rest g
    by (Some b) is g rest =
        let f = found_by channels leaves P a more b each.1 is in
        subst (Found channels leaves P) (same_Some (a, b) p g) (record { first = each.0; second = f.0; lower = f.1 })

pub is_less : (a b : ℕ) → nat_lt a b ≡ true → a < b
is_less a b h = grind (arith, nat_tests, h)

pub is_no_less : (a b : ℕ) → nat_lt a b ≡ false → b ≤ a
is_no_less a b h = grind (arith, nat_tests, h)

-- ---- the leaves that may be exchanged

abbrev pub Movable : List ℕ → ℕ → ℕ → Type 0
Movable pinned last leaf = (1 ≤ leaf) × (leaf ≤ last) × (is_among pinned leaf ≡ false)

each_movable : (pinned : List ℕ) (last n k : ℕ) → 1 ≤ n → n + k ≤ last + 1 → Each (Movable pinned last) (filter (λ leaf. not (is_among pinned leaf)) (range_with_len n k))
each_movable pinned last n zero first most = tt
each_movable pinned last n (suc k) first most = by (is_among pinned n) refl (each_movable pinned last (n + 1) k (omega (arith, first)) (omega (arith, most)))
  where
    by : (t : Bool) → is_among pinned n ≡ t → Each (Movable pinned last) (filter (λ leaf. not (is_among pinned leaf)) (range_with_len (n + 1) k))
        → Each (Movable pinned last) (cond (not t) (n ∷ filter (λ leaf. not (is_among pinned leaf)) (range_with_len (n + 1) k)) (filter (λ leaf. not (is_among pinned leaf)) (range_with_len (n + 1) k)))
    by true is rest = rest
    by false is rest = ((first, omega (arith, most), is), rest)

pub all_movable : (pinned : List ℕ) (last : ℕ) → Each (Movable pinned last) (movable_among pinned last)
all_movable pinned last = each_movable pinned last 1 last (omega arith) (omega arith)

-- ---- no pair is found

-- of so many leaves from this one on those to which no operator is pinned
abbrev free_from : List ℕ → ℕ → ℕ → List ℕ
free_from pinned n k = filter (λ leaf. not (is_among pinned leaf)) (range_with_len n k)

high : (channels : List Ends) (leaves : List ℕ) (a n : ℕ) (ms : List ℕ) (t : Bool) → lowers channels leaves a n ≡ t → (if t then Some n else partner channels leaves a ms) ≡ None
    → (lowers channels leaves a n ≡ false) × (partner channels leaves a ms ≡ None)
high channels leaves a n ms true is g = absurd (none-some n (sym g))
high channels leaves a n ms false is g = (is, g)

not_within : (channels : List Ends) (leaves pinned : List ℕ) (a n k b : ℕ) → partner channels leaves a (free_from pinned n k) ≡ None
    → n ≤ b → b < n + k → is_among pinned b ≡ false → lowers channels leaves a b ≡ false
not_within channels leaves pinned a n zero b none from below free = absurd (omega (arith, from, below))
not_within channels leaves pinned a n (suc k) b none from below free =
    by (is_among pinned n) (n == b) refl refl none (λ g f. not_within channels leaves pinned a (n + 1) k b g f (omega (arith, below)) free)
  where
    by : (t same : Bool) → is_among pinned n ≡ t → (n == b) ≡ same → partner channels leaves a (cond (not t) (n ∷ free_from pinned (n + 1) k) (free_from pinned (n + 1) k)) ≡ None
        → (partner channels leaves a (free_from pinned (n + 1) k) ≡ None → n + 1 ≤ b → lowers channels leaves a b ≡ false) → lowers channels leaves a b ≡ false
    by true true is e g rest = absurd (true≢false (sym is ∙ ap (is_among pinned) (is_same n b e) ∙ free))
    by true false is e g rest = rest g (grind (arith, nat_tests, e, from))
    by false true is e g rest = subst (λ x. lowers channels leaves a x ≡ false) (is_same n b e) (high channels leaves a n (free_from pinned (n + 1) k) (lowers channels leaves a n) refl g).0
    by false false is e g rest = rest (high channels leaves a n (free_from pinned (n + 1) k) (lowers channels leaves a n) refl g).1 (grind (arith, nat_tests, e, from))

parts : (channels : List Ends) (leaves : List ℕ) (n : ℕ) (ms : List ℕ) (o : Option ℕ) → partner channels leaves n ms ≡ o → or_else (option_map (λ x. (n, x)) o) (first_pair channels leaves ms) ≡ None
    → (partner channels leaves n ms ≡ None) × (first_pair channels leaves ms ≡ None)
parts channels leaves n ms None is g = (is, g)
parts channels leaves n ms (Some x) is g = absurd (none-some (n, x) (sym g))

no_pair : (channels : List Ends) (leaves pinned : List ℕ) (n k a b : ℕ) → first_pair channels leaves (free_from pinned n k) ≡ None
    → n ≤ a → a < b → b < n + k → is_among pinned a ≡ false → is_among pinned b ≡ false → lowers channels leaves a b ≡ false
no_pair channels leaves pinned n zero a b none from order below free other = absurd (omega (arith, from, order, below))
no_pair channels leaves pinned n (suc k) a b none from order below free other =
    by (is_among pinned n) (n == a) refl refl none (λ g f. no_pair channels leaves pinned (n + 1) k a b g f order (omega (arith, below)) free other)
  where
    by : (t same : Bool) → is_among pinned n ≡ t → (n == a) ≡ same → first_pair channels leaves (cond (not t) (n ∷ free_from pinned (n + 1) k) (free_from pinned (n + 1) k)) ≡ None
        → (first_pair channels leaves (free_from pinned (n + 1) k) ≡ None → n + 1 ≤ a → lowers channels leaves a b ≡ false) → lowers channels leaves a b ≡ false
    by true true is e g rest = absurd (true≢false (sym is ∙ ap (is_among pinned) (is_same n a e) ∙ free))
    by true false is e g rest = rest g (grind (arith, nat_tests, e, from))
    by false true is e g rest =
        let same : n ≡ a = is_same n a e in
        let p = parts channels leaves n (free_from pinned (n + 1) k) (partner channels leaves n (free_from pinned (n + 1) k)) refl g in
        subst (λ x. lowers channels leaves x b ≡ false) same
        (not_within channels leaves pinned n (n + 1) k b p.0 (omega (arith, same, order)) (omega (arith, below)) other)
    by false false is e g rest =
        let p = parts channels leaves n (free_from pinned (n + 1) k) (partner channels leaves n (free_from pinned (n + 1) k)) refl g in
        rest p.1 (grind (arith, nat_tests, e, from))

pub none_lowers : (channels : List Ends) (leaves pinned : List ℕ) (last a b : ℕ) → first_pair channels leaves (movable_among pinned last) ≡ None
    → 1 ≤ a → a < b → b ≤ last → is_among pinned a ≡ false → is_among pinned b ≡ false → total channels leaves ≤ total channels (exchanged a b leaves)
none_lowers channels leaves pinned last a b none least order most free other =
    is_no_less _ _ (no_pair channels leaves pinned 1 last a b none least order (omega (arith, most)) free other)

-- ---- exchanges one after the other

pub keeps : (P : List ℕ → Type 0) (channels : List Ends) (ms : List ℕ) → ((leaves : List ℕ) (p : ℕ × ℕ) → first_pair channels leaves ms ≡ Some p → P leaves → P (exchanged p.0 p.1 leaves))
    → (n : ℕ) (leaves : List ℕ) → P leaves → P (improved channels ms n leaves)
keeps P channels ms step zero leaves here = here
keeps P channels ms step (suc n) leaves here = by (first_pair channels leaves ms) refl (λ p e. keeps P channels ms step n (exchanged p.0 p.1 leaves) (step leaves p e here))
  where
    by : (o : Option (ℕ × ℕ)) → first_pair channels leaves ms ≡ o → ((p : ℕ × ℕ) → first_pair channels leaves ms ≡ Some p → P (improved channels ms n (exchanged p.0 p.1 leaves)))
        → P (follow o (improved channels ms n) leaves)
    by None e more = here
    by (Some p) e more = more p e

pub settled_at : (channels : List Ends) (ms : List ℕ) (n : ℕ) (leaves : List ℕ) → made channels ms n leaves < n → first_pair channels (improved channels ms n leaves) ms ≡ None
settled_at channels ms zero leaves few = absurd (omega (arith, few))
settled_at channels ms (suc n) leaves few = by (first_pair channels leaves ms) refl few (λ p l. settled_at channels ms n (exchanged p.0 p.1 leaves) l)
  where
    by : (o : Option (ℕ × ℕ)) → first_pair channels leaves ms ≡ o → one_more o (made channels ms n) leaves < suc n
        → ((p : ℕ × ℕ) → made channels ms n (exchanged p.0 p.1 leaves) < n → first_pair channels (improved channels ms n (exchanged p.0 p.1 leaves)) ms ≡ None)
        → first_pair channels (follow o (improved channels ms n) leaves) ms ≡ None
    by None e l more = e
    by (Some p) e l more = more p (omega (arith, l))
