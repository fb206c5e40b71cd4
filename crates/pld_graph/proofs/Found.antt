-- Channels in slots that are found by a key, and what stands when one is put in or taken out.
use Rattle.std.proofs.Common.{◌≡◌, ◌⊎◌, inl, inr, ℕ, zero, suc, ◌<◌, ◌+◌, Bool, true, false, true≢false, cond, ◌||◌, not, List, [], ◌∷◌, ◌++◌, length, take, Option, Some, None, is_some, filter, refl, sym, ap, subst, ◌∙◌, arith}
use Rattle.std.specs.Prelude.{slice_get, slice_set, IfSome}
use Rattle.std.specs.List.{list_any, filter_map, cons_option}
use Rattle.std.specs.Map.{lookup}
use Rattle.std.specs.Cmp.{IsEquivalence}
use Rattle.std.proofs.lemmas.Option.{none-some, same_Some, slice_get_within}
use Rattle.std.proofs.lemmas.List.Elements.{filter_map-append}
use Rattle.std.proofs.lemmas.Bool.{cond-true, cond-false}
use Rattle.pld_graph.specs.declared.parts.Channel.{Channel}
use Rattle.pld_graph.specs.Parts.{passes}
use Rattle.pld_graph.specs.Slots.{live, in_slot, IsFound, without, cleared}

by_answer : {P : Type 0} (b : Bool) → (b ≡ true → P) → (b ≡ false → P) → P
by_answer true y n = y refl
by_answer false y n = n refl

-- a list changed at a place, made longer, or cut

nth_left : {X : Type 0} (xs ys : List X) (k : ℕ) → k < length xs → slice_get (xs ++ ys) k ≡ slice_get xs k
nth_left [] ys k few = absurd (omega (arith, few))
nth_left (x ∷ xs) ys zero few = refl
nth_left (x ∷ xs) ys (suc k) few = nth_left xs ys k (omega (arith, few))

nth_seam : {X : Type 0} (xs : List X) (x : X) → slice_get (xs ++ x ∷ []) (length xs) ≡ Some x
nth_seam [] x = refl
nth_seam (y ∷ xs) x = nth_seam xs x

pub set_same : {X : Type 0} (xs : List X) (i : ℕ) (x : X) → slice_get xs i ≡ Some x → slice_set xs i x ≡ xs
set_same [] i x h = refl
set_same (y ∷ ys) zero x h = ap (λ z. z ∷ ys) (sym (same_Some y x h))
set_same (y ∷ ys) (suc i) x h = ap (λ l. y ∷ l) (set_same ys i x h)

set_apart : {X : Type 0} (xs : List X) (i j : ℕ) (x : X) → (i ≡ j → ⊥) → slice_get (slice_set xs i x) j ≡ slice_get xs j
set_apart [] i j x d = refl
set_apart (y ∷ ys) zero zero x d = absurd (d refl)
set_apart (y ∷ ys) zero (suc j) x d = refl
set_apart (y ∷ ys) (suc i) zero x d = refl
set_apart (y ∷ ys) (suc i) (suc j) x d = set_apart ys i j x (λ e. d (ap suc e))

set_here : {X : Type 0} (xs : List X) (i : ℕ) (x y : X) → slice_get (slice_set xs i x) i ≡ Some y → x ≡ y
set_here [] i x y h = absurd (none-some y h)
set_here (z ∷ zs) zero x y h = same_Some x y h
set_here (z ∷ zs) (suc i) x y h = set_here zs i x y h

one_end : {X : Type 0} (xs : List X) (x y : X) (i : ℕ) → slice_get (xs ++ x ∷ []) i ≡ Some y → (slice_get xs i ≡ Some y) ⊎ ((i ≡ length xs) × (x ≡ y))
one_end [] x y zero h = inr (refl, same_Some x y h)
one_end [] x y (suc i) h = absurd (none-some y h)
one_end (z ∷ zs) x y zero h = inl h
one_end (z ∷ zs) x y (suc i) h = later (one_end zs x y i h)
  where
    later : (slice_get zs i ≡ Some y) ⊎ ((i ≡ length zs) × (x ≡ y)) → (slice_get zs i ≡ Some y) ⊎ ((suc i ≡ suc (length zs)) × (x ≡ y))
    later (inl e) = inl e
    later (inr e) = inr (ap suc e.0, e.1)

front : {X : Type 0} (xs : List X) (n j : ℕ) (y : X) → slice_get (take n xs) j ≡ Some y → (slice_get xs j ≡ Some y) × (j < n)
front xs zero j y h = absurd (none-some y h)
front [] (suc n) j y h = absurd (none-some y h)
front (x ∷ xs) (suc n) zero y h = (h, omega arith)
front (x ∷ xs) (suc n) (suc j) y h = let e = front xs n j y h in (e.0, let f = e.1 in omega (arith, f))

none≢Some : {c : Channel} → Some None ≡ Some (Some c) → ⊥
none≢Some {c} h = none-some c (same_Some None (Some c) h)

-- slots in which the channels that pass are known by their places
module _ (p : Channel → Bool) where
  some_passes : (slots : List (Option Channel)) (i : ℕ) (c : Channel) → slice_get slots i ≡ Some (Some c) → p c ≡ true → list_any p (live slots) ≡ true
  some_passes [] i c at holds = absurd (none-some (Some c) at)
  some_passes (None ∷ slots) zero c at holds = absurd (none≢Some at)
  some_passes (Some d ∷ slots) zero c at holds = ap (λ b. b || list_any p (live slots)) (ap p (same_Some d c (same_Some (Some d) (Some c) at)) ∙ holds)
  some_passes (None ∷ slots) (suc i) c at holds = some_passes slots i c at holds
  some_passes (Some d ∷ slots) (suc i) c at holds = right (p d) (some_passes slots i c at holds)
    where
      right : (a : Bool) → list_any p (live slots) ≡ true → (a || list_any p (live slots)) ≡ true
      right true e = refl
      right false e = e

  none_passes : (slots : List (Option Channel)) → ((i : ℕ) (c : Channel) → slice_get slots i ≡ Some (Some c) → p c ≡ false) → list_any p (live slots) ≡ false
  none_passes [] fails = refl
  none_passes (None ∷ slots) fails = none_passes slots (λ i. fails (suc i))
  none_passes (Some c ∷ slots) fails = λ j. fails 0 c refl j || none_passes slots (λ i. fails (suc i)) j

  others : (slots : List (Option Channel)) → list_any p (live slots) ≡ false → (i : ℕ) (c : Channel) → slice_get slots i ≡ Some (Some c) → p c ≡ false
  others slots none i c at = by_answer (p c) (λ holds. absurd (true≢false (sym (some_passes slots i c at holds) ∙ none))) (λ fails. fails)

  all_stay : (slots : List (Option Channel)) → ((i : ℕ) (c : Channel) → slice_get slots i ≡ Some (Some c) → p c ≡ false) → filter (λ c. not (p c)) (live slots) ≡ live slots
  all_stay [] fails = refl
  all_stay (None ∷ slots) fails = all_stay slots (λ i. fails (suc i))
  all_stay (Some c ∷ slots) fails = λ j. cond (not (fails 0 c refl j)) (c ∷ all_stay slots (λ i. fails (suc i)) j) (all_stay slots (λ i. fails (suc i)) j)

  one_less : (slots : List (Option Channel)) (k : ℕ) (c : Channel) → slice_get slots k ≡ Some (Some c) → p c ≡ true → ((i : ℕ) (d : Channel) → slice_get slots i ≡ Some (Some d) → p d ≡ true → i ≡ k)
      → live (slice_set slots k None) ≡ filter (λ d. not (p d)) (live slots)
  one_less [] k c at holds only = absurd (none-some (Some c) at)
  one_less (None ∷ slots) zero c at holds only = absurd (none≢Some at)
  one_less (Some d ∷ slots) zero c at holds only =
      let first : p d ≡ true = ap p (same_Some d c (same_Some (Some d) (Some c) at)) ∙ holds in
      let rest : (i : ℕ) (e : Channel) → slice_get slots i ≡ Some (Some e) → p e ≡ false = λ i e h. by_answer (p e) (λ y. absurd (let f = only (suc i) e h y in omega (arith, f))) (λ n. n) in
      sym (ap (λ b. cond (not b) (d ∷ filter (λ e. not (p e)) (live slots)) (filter (λ e. not (p e)) (live slots))) first ∙ all_stay slots rest)
  one_less (None ∷ slots) (suc k) c at holds only = one_less slots k c at holds (λ i d h y. let f = only (suc i) d h y in omega (arith, f))
  one_less (Some d ∷ slots) (suc k) c at holds only =
      let first : p d ≡ false = by_answer (p d) (λ y. absurd (let f = only 0 d refl y in omega (arith, f))) (λ n. n) in
      sym (ap (λ b. cond (not b) (d ∷ filter (λ e. not (p e)) (live slots)) (filter (λ e. not (p e)) (live slots))) first
      ∙ ap (λ l. d ∷ l) (sym (one_less slots k c at holds (λ i e h y. let f = only (suc i) e h y in omega (arith, f)))))

-- a map that leads from keys to slots
module _ {K : Type 0} (same : K → K → Bool) (laws : IsEquivalence same) (key : Channel → K) where
  by_key : (q r : K) (es : List (K × ℕ)) → same q r ≡ true → lookup (same q) es ≡ lookup (same r) es
  by_key q r [] h = refl
  by_key q r (e ∷ es) h = λ i. cond (laws.congr q r e.0 h i) (Some e.1) (by_key q r es h i)

  pub none_found : IsFound same key [] []
  none_found = record {
    listed = λ i c h. absurd (none-some (Some c) h);
    leads = λ q i h. absurd (none-some i h);
  }

  module _ (slots : List (Option Channel)) (es : List (K × ℕ)) (found : IsFound same key slots es) where
    only_one : (q : K) (i j : ℕ) (d : Channel) → lookup (same q) es ≡ Some i → slice_get slots j ≡ Some (Some d) → same q (key d) ≡ true → j ≡ i
    only_one q i j d at here s = same_Some j i (sym (found.listed j d here) ∙ sym (by_key q (key d) es s) ∙ at)

    pub found_alone : (q : K) (i : ℕ) → lookup (same q) es ≡ Some i → (live (slice_set slots i None) ≡ filter (λ c. not (same q (key c))) (live slots)) × (i < length slots)
    found_alone q i at =
        let l = found.leads q i at in
        (one_less (λ c. same q (key c)) slots i l.0 l.1 l.2 (λ j d here s. only_one q i j d at here s), slice_get_within slots i (Some l.0) l.1)

    is_there : (q : K) (o : Option ℕ) → lookup (same q) es ≡ o → is_some o ≡ list_any (λ c. same q (key c)) (live slots)
    is_there q (Some i) at = let l = found.leads q i at in sym (some_passes (λ c. same q (key c)) slots i l.0 l.1 l.2)
    is_there q None at = sym (none_passes (λ c. same q (key c)) slots
        (λ i c here. by_answer (same q (key c)) (λ y. absurd (none-some i (sym at ∙ by_key q (key c) es y ∙ found.listed i c here))) (λ n. n)))

    pub found_there : (q : K) → is_some (lookup (same q) es) ≡ list_any (λ c. same q (key c)) (live slots)
    found_there q = is_there q (lookup (same q) es) refl

    pub alone_if : (q : K) (r : Option ℕ) → r ≡ lookup (same q) es → IfSome r (λ i. live (slice_set slots i None) ≡ filter (λ c. not (same q (key c))) (live slots))
    alone_if q (Some i) at = (found_alone q i (sym at)).0
    alone_if q None at = tt

    pub within_if : (q : K) (r : Option ℕ) → r ≡ lookup (same q) es → IfSome r (λ i. i < length slots)
    within_if q (Some i) at = (found_alone q i (sym at)).1
    within_if q None at = tt

    -- the key of a channel is none of those in front of it
    pub front_free : (i : ℕ) (c : Channel) → slice_get slots i ≡ Some (Some c) → list_any (λ d. same (key c) (key d)) (live (take i slots)) ≡ false
    front_free i c at = none_passes (λ d. same (key c) (key d)) (take i slots) (λ j d here.
        let f = front slots i j (Some d) here in
        by_answer (same (key c) (key d)) (λ y. absurd (let e = only_one (key c) i j d (found.listed i c at) f.0 y in let below = f.1 in omega (arith, e, below))) (λ n. n))

    -- a channel more
    pub found_more : (c : Channel) (es' : List (K × ℕ)) → list_any (λ d. same (key c) (key d)) (live slots) ≡ false
        → ((q : K) → lookup (same q) es' ≡ cond (same (key c) q) (Some (length slots)) (lookup (same q) es)) → IsFound same key (slots ++ Some c ∷ []) es'
    found_more c es' free put = record {
      listed = λ i d h. listed i d (one_end slots (Some c) (Some d) i h);
      leads = λ q i h. by_answer (same (key c) q)
          (λ y. (c, ap (slice_get (slots ++ Some c ∷ [])) (sym (same_Some (length slots) i (sym (cond-true _ _ _ y) ∙ sym (put q) ∙ h))) ∙ nth_seam slots (Some c), laws.symm q (key c) ∙ y))
          (λ n. let l = found.leads q i (sym (cond-false _ _ _ n) ∙ sym (put q) ∙ h) in
          (l.0, nth_left slots (Some c ∷ []) i (slice_get_within slots i (Some l.0) l.1) ∙ l.1, l.2));
    }
      where
        listed : (i : ℕ) (d : Channel) → (slice_get slots i ≡ Some (Some d)) ⊎ ((i ≡ length slots) × (Some c ≡ Some d)) → lookup (same (key d)) es' ≡ Some i
        listed i d (inl here) = put (key d) ∙ cond-false _ _ _ (others (λ x. same (key c) (key x)) slots free i d here) ∙ found.listed i d here
        listed i d (inr e) = put (key d) ∙ cond-true _ _ _ (ap (λ x. same (key c) (key x)) (sym (same_Some c d e.1)) ∙ laws.refl (key c)) ∙ ap Some (sym e.0)

    -- a channel less
    pub found_less : (k : ℕ) (c : Channel) (es' : List (K × ℕ)) → slice_get slots k ≡ Some (Some c)
        → ((q : K) → lookup (same q) es' ≡ cond (same (key c) q) None (lookup (same q) es)) → IsFound same key (slice_set slots k None) es'
    found_less k c es' at put = record {
      listed = λ i d h. listed i d h (λ e. none≢Some (ap Some (set_here slots k None (Some d) (subst (λ j. slice_get (slice_set slots k None) j ≡ Some (Some d)) (sym e) h))));
      leads = λ q i h. by_answer (same (key c) q)
          (λ y. absurd (none-some i (sym (cond-true _ _ _ y) ∙ sym (put q) ∙ h)))
          (λ n. let l = found.leads q i (sym (cond-false _ _ _ n) ∙ sym (put q) ∙ h) in
          (l.0, set_apart slots k i None (λ e. apart q i l.0 n e l.1 l.2) ∙ l.1, l.2));
    }
      where
        apart : (q : K) (i : ℕ) (d : Channel) → same (key c) q ≡ false → k ≡ i → slice_get slots i ≡ Some (Some d) → same q (key d) ≡ true → ⊥
        apart q i d n e here s =
            let one : d ≡ c = same_Some d c (same_Some (Some d) (Some c) (sym here ∙ ap (slice_get slots) (sym e) ∙ at)) in
            true≢false (sym (laws.symm (key c) q ∙ ap (λ x. same q (key x)) (sym one) ∙ s) ∙ n)

        listed : (i : ℕ) (d : Channel) → slice_get (slice_set slots k None) i ≡ Some (Some d) → (k ≡ i → ⊥) → lookup (same (key d)) es' ≡ Some i
        listed i d h other =
            let here = sym (set_apart slots k i None other) ∙ h in
            put (key d)
            ∙ cond-false _ _ _ (by_answer (same (key c) (key d)) (λ y. absurd (other (sym (only_one (key c) k i d (found.listed k c at) here y)))) (λ n. n))
            ∙ found.listed i d here

-- a walk that empties the slots whose channels pass
module _ (p : Channel → Bool) where
  pub clear_read : (slots : List (Option Channel)) (n : ℕ) → slice_get (cleared p n slots) n ≡ slice_get slots n
  clear_read slots zero = refl
  clear_read [] (suc n) = refl
  clear_read (s ∷ slots) (suc n) = clear_read slots n

  pub clear_next : (slots : List (Option Channel)) (n : ℕ) (s : Option Channel) → slice_get slots n ≡ Some s → cleared p (suc n) slots ≡ slice_set (cleared p n slots) n (without p s)
  clear_next [] n s at = absurd (none-some s at)
  clear_next (t ∷ slots) zero s at = ap (λ x. without p x ∷ slots) (same_Some t s at)
  clear_next (t ∷ slots) (suc n) s at = ap (λ l. without p t ∷ l) (clear_next slots n s at)

  pub length-cleared : (slots : List (Option Channel)) (n : ℕ) → length (cleared p n slots) ≡ length slots
  length-cleared slots zero = refl
  length-cleared [] (suc n) = refl
  length-cleared (s ∷ slots) (suc n) = ap suc (length-cleared slots n)

  pub all_cleared : (slots : List (Option Channel)) → live (cleared p (length slots) slots) ≡ filter (λ c. not (p c)) (live slots)
  all_cleared [] = refl
  all_cleared (None ∷ slots) = all_cleared slots
  all_cleared (Some c ∷ slots) = one (p c) (all_cleared slots)
    where
      one : (b : Bool) → live (cleared p (length slots) slots) ≡ filter (λ d. not (p d)) (live slots)
          → live (cond b None (Some c) ∷ cleared p (length slots) slots) ≡ cond (not b) (c ∷ filter (λ d. not (p d)) (live slots)) (filter (λ d. not (p d)) (live slots))
      one true rest = rest
      one false rest = ap (λ l. c ∷ l) rest

module _ {X : Type 0} (f : Channel → Option X) where
  -- what is picked of the channels that stand is picked of their slots
  pub picked : (slots : List (Option Channel)) → filter_map (in_slot f) slots ≡ filter_map f (live slots)
  picked [] = refl
  picked (None ∷ slots) = picked slots
  picked (Some c ∷ slots) = ap (cons_option (f c)) (picked slots)

pub any_slot : (p : Channel → Bool) (slots : List (Option Channel)) → list_any (passes p) slots ≡ list_any p (live slots)
any_slot p [] = refl
any_slot p (None ∷ slots) = any_slot p slots
any_slot p (Some c ∷ slots) = ap (λ b. p c || b) (any_slot p slots)

take_more : {X : Type 0} (xs : List X) (i : ℕ) (x : X) → slice_get xs i ≡ Some x → take (suc i) xs ≡ take i xs ++ x ∷ []
take_more [] i x at = absurd (none-some x at)
take_more (y ∷ ys) zero x at = ap (λ z. z ∷ []) (same_Some y x at)
take_more (y ∷ ys) (suc i) x at = ap (λ l. y ∷ l) (take_more ys i x at)

-- one slot further, the channels in front of it are those that were put down
pub live_more : (slots done more : List (Option Channel)) (i : ℕ) (x : Option Channel) → slice_get slots i ≡ Some x → live done ≡ live (take i slots) → live more ≡ live done ++ live (x ∷ []) → live more ≡ live (take (i + 1) slots)
live_more slots done more i x at so e =
    let next : suc i ≡ i + 1 = omega arith in
    e ∙ ap (λ l. l ++ live (x ∷ [])) so ∙ sym (filter_map-append (λ s. s) (take i slots) (x ∷ [])) ∙ ap live (sym (take_more slots i x at)) ∙ ap (λ k. live (take k slots)) next

pub clear_step : (p : Channel → Bool) (slots t u : List (Option Channel)) (n : ℕ) (s : Option Channel) → t ≡ cleared p n slots → slice_get t n ≡ Some s → u ≡ slice_set t n (without p s) → u ≡ cleared p (n + 1) slots
clear_step p slots t u n s so at e =
    let next : suc n ≡ n + 1 = omega arith in
    e ∙ ap (λ l. slice_set l n (without p s)) so ∙ sym (clear_next p slots n s (sym (clear_read p slots n) ∙ ap (λ l. slice_get l n) (sym so) ∙ at)) ∙ ap (λ k. cleared p k slots) next
