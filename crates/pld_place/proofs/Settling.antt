-- Each operator stands on a leaf of its own before any exchange.
use Rattle.std.proofs.Common.{◌≡◌, ℕ, zero, suc, ◌+◌, ◌≤◌, Bool, true, false, true≢false, ◌||◌, cond, ◌⊎◌, inl, inr, List, [], ◌∷◌, ◌++◌, length, refl, sym, ap, subst, ◌∙◌, arith, Option, Some, None}
use Rattle.std.specs.Prelude.{◌==◌, slice_index_or}
use Rattle.std.specs.List.{count_by}
use Rattle.std.proofs.lemmas.List.Sums.{sum_by-cons}
use Rattle.std.proofs.lemmas.List.{length-append}
use Rattle.std.proofs.lemmas.Option.{none-some, same_Some}
use Rattle.pld_graph.specs.Parts.{passes}
use Rattle.pld_place.specs.Placing.{is_among, next_leaf, settled, pinned_leaves}
use Rattle.pld_place.proofs.Free.{IsFree, next_is_free, among_more, own_test}

-- the pin is this leaf
abbrev pub holds : ℕ → Option ℕ → Bool
holds leaf p = passes (λ l. l == leaf) p

abbrev pub Each : (ℕ → Type 0) → List ℕ → Type 0
Each P [] = Unit {0}
Each P (x ∷ xs) = P x × Each P xs

pub each_of : (P Q : ℕ → Type 0) → ((x : ℕ) → P x → Q x) → (xs : List ℕ) → Each P xs → Each Q xs
each_of P Q f [] h = tt
each_of P Q f (x ∷ xs) h = (f x h.0, each_of P Q f xs h.1)

-- no two elements are one
abbrev pub Apart : List ℕ → Type 0
Apart [] = Unit {0}
Apart (x ∷ xs) = Each (λ y. y ≡ x → ⊥) xs × Apart xs

-- so many operators without a pin
abbrev pub unpinned : List (Option ℕ) → ℕ
unpinned [] = 0
unpinned (None ∷ ps) = 1 + unpinned ps
unpinned (Some l ∷ ps) = unpinned ps

pub count_cons : (leaf : ℕ) (p : Option ℕ) (ps : List (Option ℕ)) → count_by (holds leaf) (p ∷ ps) ≡ cond (holds leaf p) 1 0 + count_by (holds leaf) ps
count_cons leaf p ps = sum_by-cons (λ x. cond (holds leaf x) 1 0) p ps

pub counted_here : (leaf : ℕ) (ps : List (Option ℕ)) → count_by (holds leaf) (Some leaf ∷ ps) ≡ 1 + count_by (holds leaf) ps
counted_here leaf ps = count_cons leaf (Some leaf) ps ∙ ap (λ t. cond t 1 0 + count_by (holds leaf) ps) (own_test leaf leaf refl)

-- what is known of pins and of taken leaves while operators are placed
pub record Room (last : ℕ) (taken : List ℕ) (ps : List (Option ℕ)) : Type 0 where
  pub deep : last ≤ 63
  pub space : length taken + unpinned ps ≤ last
  pub once : (l : ℕ) → count_by (holds l) ps ≤ 1
  pub taken_pins : (l : ℕ) → 1 ≤ count_by (holds l) ps → is_among taken l ≡ true
  pub pins : (l : ℕ) → 1 ≤ count_by (holds l) ps → (1 ≤ l) × (l ≤ last)

-- where a leaf comes from: it is a pin, or it was free
abbrev pub From : ℕ → List ℕ → List (Option ℕ) → ℕ → Type 0
From last taken ps x = ((1 ≤ x) × (x ≤ last)) × ((1 ≤ count_by (holds x) ps) ⊎ (is_among taken x ≡ false))

after_pin : (last : ℕ) (taken : List ℕ) (leaf : ℕ) (ps : List (Option ℕ)) → Room last taken (Some leaf ∷ ps) → Room last taken ps
after_pin last taken leaf ps r =
    let more : (l : ℕ) → count_by (holds l) ps ≤ count_by (holds l) (Some leaf ∷ ps) = λ l. omega (arith, count_cons l (Some leaf) ps) in
    record {
      deep = r.deep;
      space = r.space;
      once = λ l. let o = r.once l in omega (arith, o, more l);
      taken_pins = λ l h. r.taken_pins l (omega (arith, h, more l));
      pins = λ l h. r.pins l (omega (arith, h, more l));
    }

among_still : (taken : List ℕ) (leaf x : ℕ) → is_among taken x ≡ true → is_among (taken ++ leaf ∷ []) x ≡ true
among_still [] leaf x h = absurd (true≢false (sym h))
among_still (t ∷ ts) leaf x h = by (t == x) refl h (among_still ts leaf x)
  where
    by : (b : Bool) → (t == x) ≡ b → (b || is_among ts x) ≡ true → (is_among ts x ≡ true → is_among (ts ++ leaf ∷ []) x ≡ true) → is_among (t ∷ (ts ++ leaf ∷ [])) x ≡ true
    by true e g rest = ap (λ c. c || is_among (ts ++ leaf ∷ []) x) e
    by false e g rest = ap (λ c. c || is_among (ts ++ leaf ∷ []) x) e ∙ rest g

none_counted : (l : ℕ) (ps : List (Option ℕ)) → count_by (holds l) (None ∷ ps) ≡ count_by (holds l) ps
none_counted l ps = count_cons l None ps ∙ omega arith

after_free : (last : ℕ) (taken : List ℕ) (leaf : ℕ) (ps : List (Option ℕ)) → Room last taken (None ∷ ps) → Room last (taken ++ leaf ∷ []) ps
after_free last taken leaf ps r =
    let space = r.space in
    record {
      deep = r.deep;
      space = omega (arith, space, length-append taken (leaf ∷ []));
      once = λ l. let o = r.once l in omega (arith, o, none_counted l ps);
      taken_pins = λ l h. among_still taken leaf l (r.taken_pins l (omega (arith, h, none_counted l ps)));
      pins = λ l h. r.pins l (omega (arith, h, none_counted l ps));
    }

-- the leaf that the next operator without a pin is given
free_leaf : (last : ℕ) (taken : List ℕ) (ps : List (Option ℕ)) → Room last taken (None ∷ ps) → IsFree taken last (next_leaf taken)
free_leaf last taken ps r =
    let space = r.space in
    next_is_free taken last (omega (arith, space)) r.deep

pub record Spread (last : ℕ) (taken : List ℕ) (ps : List (Option ℕ)) (leaves : List ℕ) : Type 0 where
  pub apart : Apart leaves
  pub from : Each (From last taken ps) leaves

pinned_first : (last : ℕ) (taken : List ℕ) (leaf : ℕ) (ps : List (Option ℕ)) (rest : List ℕ) → Room last taken (Some leaf ∷ ps) → Spread last taken ps rest → Spread last taken (Some leaf ∷ ps) (leaf ∷ rest)
pinned_first last taken leaf ps rest r s =
    let own : 1 ≤ count_by (holds leaf) (Some leaf ∷ ps) = omega (arith, counted_here leaf ps) in
    let most = r.once leaf in
    let among = r.taken_pins leaf own in
    let other : (x : ℕ) → From last taken ps x → x ≡ leaf → ⊥ = λ x f same. by x f.1 same most among in
    record {
      apart = (each_of (From last taken ps) (λ y. y ≡ leaf → ⊥) other rest s.from, s.apart);
      from = ((r.pins leaf own, inl own), each_of (From last taken ps) (From last taken (Some leaf ∷ ps)) (λ x f. (f.0, still x f.1)) rest s.from);
    }
  where
    by : (x : ℕ) → (1 ≤ count_by (holds x) ps) ⊎ (is_among taken x ≡ false) → x ≡ leaf → count_by (holds leaf) (Some leaf ∷ ps) ≤ 1 → is_among taken leaf ≡ true → ⊥
    by x (inl h) same most among =
        let here : 1 ≤ count_by (holds leaf) ps = subst (λ y. 1 ≤ count_by (holds y) ps) same h in
        absurd (omega (arith, here, most, counted_here leaf ps))
    by x (inr h) same most among = true≢false (sym among ∙ ap (is_among taken) (sym same) ∙ h)

    still : (x : ℕ) → (1 ≤ count_by (holds x) ps) ⊎ (is_among taken x ≡ false) → (1 ≤ count_by (holds x) (Some leaf ∷ ps)) ⊎ (is_among taken x ≡ false)
    still x (inl h) = inl (omega (arith, h, count_cons x (Some leaf) ps))
    still x (inr h) = inr h

free_first : (last : ℕ) (taken : List ℕ) (leaf : ℕ) (ps : List (Option ℕ)) (rest : List ℕ) → Room last taken (None ∷ ps) → IsFree taken last leaf → Spread last (taken ++ leaf ∷ []) ps rest → Spread last taken (None ∷ ps) (leaf ∷ rest)
free_first last taken leaf ps rest r f s = record {
  apart = (each_of (From last (taken ++ leaf ∷ []) ps) (λ y. y ≡ leaf → ⊥) (λ x g same. by x g.1 same) rest s.from, s.apart);
  from = (((f.least, f.most), inr f.free), each_of (From last (taken ++ leaf ∷ []) ps) (From last taken (None ∷ ps)) (λ x g. (g.0, still x g.1)) rest s.from);
}
  where
    by : (x : ℕ) → (1 ≤ count_by (holds x) ps) ⊎ (is_among (taken ++ leaf ∷ []) x ≡ false) → x ≡ leaf → ⊥
    by x (inl h) same =
        let here : is_among taken x ≡ true = r.taken_pins x (omega (arith, h, none_counted x ps)) in
        true≢false (sym here ∙ ap (is_among taken) same ∙ f.free)
    by x (inr h) same = (among_more taken leaf x h).1 (sym same)

    still : (x : ℕ) → (1 ≤ count_by (holds x) ps) ⊎ (is_among (taken ++ leaf ∷ []) x ≡ false) → (1 ≤ count_by (holds x) (None ∷ ps)) ⊎ (is_among taken x ≡ false)
    still x (inl h) = inl (omega (arith, h, none_counted x ps))
    still x (inr h) = inr (among_more taken leaf x h).0

pub spread : (last : ℕ) (taken : List ℕ) (ps : List (Option ℕ)) → Room last taken ps → Spread last taken ps (settled taken ps)
spread last taken [] r = record { apart = tt; from = tt }
spread last taken (Some leaf ∷ ps) r = pinned_first last taken leaf ps (settled taken ps) r (spread last taken ps (after_pin last taken leaf ps r))
spread last taken (None ∷ ps) r =
    free_first last taken (next_leaf taken) ps (settled (taken ++ next_leaf taken ∷ []) ps) r (free_leaf last taken ps r)
    (spread last (taken ++ next_leaf taken ∷ []) ps (after_free last taken (next_leaf taken) ps r))

pub length-settled : (taken : List ℕ) (ps : List (Option ℕ)) → length (settled taken ps) ≡ length ps
length-settled taken [] = refl
length-settled taken (Some leaf ∷ ps) = ap suc (length-settled taken ps)
length-settled taken (None ∷ ps) = ap suc (length-settled (taken ++ next_leaf taken ∷ []) ps)

-- pinned operators stand at their pins
pub at_pins : (taken : List ℕ) (ps : List (Option ℕ)) (k leaf : ℕ) → slice_index_or ps k None ≡ Some leaf → slice_index_or (settled taken ps) k 0 ≡ leaf
at_pins taken [] k leaf e = absurd (none-some leaf e)
at_pins taken (Some l ∷ ps) zero leaf e = same_Some l leaf e
at_pins taken (None ∷ ps) zero leaf e = absurd (none-some leaf e)
at_pins taken (Some l ∷ ps) (suc k) leaf e = at_pins taken ps k leaf e
at_pins taken (None ∷ ps) (suc k) leaf e = at_pins (taken ++ next_leaf taken ∷ []) ps k leaf e

-- ---- the leaves of pins are taken at first

pub pins_taken : (ps : List (Option ℕ)) (l : ℕ) → 1 ≤ count_by (holds l) ps → is_among (pinned_leaves ps) l ≡ true
pins_taken [] l h = absurd (omega (arith, h))
pins_taken (None ∷ ps) l h = pins_taken ps l (omega (arith, h, none_counted l ps))
pins_taken (Some p ∷ ps) l h = by (p == l) refl (pins_taken ps l)
  where
    by : (b : Bool) → (p == l) ≡ b → (1 ≤ count_by (holds l) ps → is_among (pinned_leaves ps) l ≡ true) → is_among (p ∷ pinned_leaves ps) l ≡ true
    by true e rest = ap (λ c. c || is_among (pinned_leaves ps) l) e
    by false e rest =
        let none : cond {A = ℕ} (p == l) 1 0 ≡ 0 = ap (λ c. cond c 1 0) e in
        ap (λ c. c || is_among (pinned_leaves ps) l) e ∙ rest (omega (arith, h, count_cons l (Some p) ps, none))

pub pins_and_others : (ps : List (Option ℕ)) → length (pinned_leaves ps) + unpinned ps ≡ length ps
pins_and_others [] = refl
pins_and_others (None ∷ ps) = let rest = pins_and_others ps in omega (arith, rest)
pins_and_others (Some p ∷ ps) = let rest = pins_and_others ps in omega (arith, rest)
