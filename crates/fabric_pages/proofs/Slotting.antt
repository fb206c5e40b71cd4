-- Slots go on showing pages.
use Rattle.std.proofs.Common.{◌≡◌, ◌≢◌, ℕ, zero, suc, ◌+◌, ◌<◌, ◌≤◌, ◌⊎◌, Bool, true, false, not, cond, List, [], ◌∷◌, ◌++◌, length, refl, ap, sym, ◌∙◌, arith, Option, Some, None, subst, inl, inr}
use Rattle.std.specs.Prelude.{◌&&◌, ◌||◌, ◌==◌, nat_lt, nat_eq, is_none, is_some, slice_get, slice_set, slice_index_or, IsSome}
use Rattle.std.proofs.lemmas.Option.{slice_get_read, slice_get_within, none-some, same_Some}
use Rattle.std.proofs.Math.ListN.{length-set}
use Rattle.std.proofs.lemmas.Bool.Decides.{nat_tests}
use Rattle.net_tree.specs.Links.{sum_to}
use Rattle.pld_image.specs.declared.page.PageCore.{PageCore}
use Rattle.pld_image.specs.declared.page.TurnEnd.{TurnEnd}
use Rattle.pld_image.specs.Cores.{core_of}
use Rattle.fabric_run.specs.Turns.{Turned}
use Rattle.fabric_run.specs.World.{PageState, placed, out_to, returned, after_net, all_to, start_page}
use Rattle.fabric_run.specs.Replay.{has_ended, is_served, is_ready, first_to, or_else}
use Rattle.fabric_keeps.proofs.Base.{placed_here, placed_other, sum_same, sum_placed, same_or, last_or}
use Rattle.fabric_pages.specs.declared.slot.PageSlot.{PageSlot}
use Rattle.fabric_pages.specs.Slots.{IsSlotOf, IsPlaceOf, outside, unfinished, unserved, ShowsBy, core_in, gives_in}

-- a count of those that fail a test

both_true : (a b : Bool) (n : ℕ) → nat_eq n 0 ≡ a → nat_eq (n + cond b 0 1) 0 ≡ a && b
both_true true true n e = grind (arith, nat_tests)
both_true true false n e = grind (arith, nat_tests)
both_true false true n e = grind (arith, nat_tests)
both_true false false n e = grind (arith, nat_tests)

pub none_fails : (n : ℕ) (t : ℕ → Bool) → nat_eq (sum_to n (λ i. cond (t i) 0 1)) 0 ≡ all_to n t
none_fails zero t = refl
none_fails (suc n) t = both_true (all_to n t) (t n) (sum_to n (λ i. cond (t i) 0 1)) (none_fails n t)

pub got_set : {A : Type 0} (xs : List A) (k j : ℕ) (x y : A) → slice_get (slice_set xs k x) j ≡ Some y → ((j ≡ k) × (x ≡ y)) ⊎ ((j ≢ k) × (slice_get xs j ≡ Some y))
got_set [] k j x y e = absurd (none-some y e)
got_set (z ∷ xs) zero zero x y e = inl (refl, same_Some x y e)
got_set (z ∷ xs) zero (suc j) x y e = inr (omega arith, e)
got_set (z ∷ xs) (suc k) zero x y e = inr (omega arith, e)
got_set (z ∷ xs) (suc k) (suc j) x y e =
    elim (got_set xs k j x y e) [
      | inl s ↦ inl (ap suc s.0, s.1)
      | inr s ↦ inr (λ (same : suc j ≡ suc k). s.0 (omega arith), s.1)
    ]

module _ (size : ℕ) (pages : ℕ → Option PageState) (slots : List PageSlot) (out running due cursor : ℕ) (s : ShowsBy size pages slots out running due cursor) where
  set_each : (leaf : ℕ) (slot : PageSlot) (o : Option PageState) → IsPlaceOf slot o → (i : ℕ) (x : PageSlot) → slice_get (slice_set slots leaf slot) i ≡ Some x → IsPlaceOf x (placed pages leaf o i)
  set_each leaf slot o h i x e =
      elim (got_set slots leaf i slot x e) [
        | inl here ↦ subst (IsPlaceOf x) (sym (ap (placed pages leaf o) here.0 ∙ placed_here pages leaf o)) (subst (λ (y : PageSlot). IsPlaceOf y o) here.1 h)
        | inr there ↦ subst (IsPlaceOf x) (sym (placed_other pages leaf o i there.0)) (s.each i x there.1)
      ]

  set_passed : (leaf : ℕ) (o : Option PageState) → (leaf < cursor → is_served (pages leaf) ≡ true → is_served o ≡ true) → (i : ℕ) → i < cursor → is_served (placed pages leaf o i) ≡ true
  set_passed leaf o h i l =
      elim (same_or i leaf (i == leaf) refl) [
        | inl e ↦ ap is_served (ap (placed pages leaf o) e ∙ placed_here pages leaf o) ∙ h (omega (arith, e, l)) (ap (λ (k : ℕ). is_served (pages k)) (sym e) ∙ s.passed i l)
        | inr n ↦ ap is_served (placed_other pages leaf o i n) ∙ s.passed i l
      ]

  -- a page and its slot change
  pub set_shows : (leaf : ℕ) (slot : PageSlot) (o : Option PageState) (out' running' due' : ℕ) → leaf < size → IsPlaceOf slot o → (leaf < cursor → is_served (pages leaf) ≡ true → is_served o ≡ true)
      → out' + outside (pages leaf) ≡ out + outside o → running' + unfinished (pages leaf) ≡ running + unfinished o → due' + unserved (pages leaf) ≡ due + unserved o
      → ShowsBy size (placed pages leaf o) (slice_set slots leaf slot) out' running' due' cursor
  set_shows leaf slot o out' running' due' l h served a b d = record {
    many = length-set slots leaf slot ∙ s.many;
    each = set_each leaf slot o h;
    out_count = omega (arith, a, s.out_count, sum_placed size outside pages leaf o l);
    running_count = omega (arith, b, s.running_count, sum_placed size unfinished pages leaf o l);
    due_count = omega (arith, d, s.due_count, sum_placed size unserved pages leaf o l);
    passed = set_passed leaf o served;
    within = s.within;
  }

  -- the slot of a leaf, as it is read
  pub place_at : (leaf : ℕ) (slot : PageSlot) → leaf < size → slot ≡ slice_index_or slots leaf slot → IsPlaceOf slot (pages leaf)
  place_at leaf slot l e = s.each leaf slot (slice_get_read slots (length slots) leaf slot refl (omega (arith, s.many)) e)

  pub slot_there : (leaf : ℕ) (slot : PageSlot) (p : PageState) → leaf < size → slot ≡ slice_index_or slots leaf slot → pages leaf ≡ Some p → IsSlotOf slot p
  slot_there leaf slot p l e there = subst (IsPlaceOf slot) there (place_at leaf slot l e)

  -- a page goes out
  pub taken_shows : (leaf : ℕ) (slot : PageSlot) (p : PageState) (seat out' : ℕ) → leaf < size → slot ≡ slice_index_or slots leaf slot → pages leaf ≡ Some p → p.holder ≡ None → out' ≡ out + 1
      → ShowsBy size (placed pages leaf (out_to seat (pages leaf))) (slice_set slots leaf (record slot { core = None; holder = Some seat })) out' running due cursor
  taken_shows leaf slot p seat out' l e there home more =
      let i : IsSlotOf slot p = slot_there leaf slot p l e there in
      subst (λ (o : Option PageState). ShowsBy size (placed pages leaf (out_to seat o)) (slice_set slots leaf (record slot { core = None; holder = Some seat })) out' running due cursor) (sym there)
      (set_shows leaf (record slot { core = None; holder = Some seat }) (Some (record p { holder = Some seat })) out' running due l
      (record { there = i.there; holder = refl; gives = i.gives; end = i.end; core = λ (n : Some seat ≡ None). absurd (none-some seat (sym n)) })
      (λ before (h : is_served (pages leaf) ≡ true). sym (ap is_served there) ∙ h)
      (omega (arith, more, ap outside there, ap (λ (h : Option ℕ). cond {A = ℕ} (is_none h) 0 1) home))
      (omega (arith, ap unfinished there))
      (omega (arith, ap unserved there)))

  -- a page comes home
  pub given_shows : (leaf : ℕ) (slot : PageSlot) (p : PageState) (t : Turned) (core : PageCore) (end : Option TurnEnd) (out' running' due' : ℕ)
      → leaf < size → slot ≡ slice_index_or slots leaf slot → pages leaf ≡ Some p → IsSome p.holder → has_ended p.end ≡ false
      → out' + 1 ≡ out → running' + cond (has_ended end) 1 0 ≡ running → due' + cond (nat_eq slot.gives 0) 1 0 ≡ due
      → ShowsBy size (placed pages leaf (returned p t (core_of core) end)) (slice_set slots leaf (record slot { core = Some core; holder = None; gives = slot.gives + 1; end = end })) out' running' due' cursor
  given_shows leaf slot p t core end out' running' due' l e there held on a b d =
      let i : IsSlotOf slot p = slot_there leaf slot p l e there in
      let q : PageState = record { core = core_of core; steps = p.steps + t.steps; holder = None; gives = p.gives + 1; end = end } in
      set_shows leaf (record slot { core = Some core; holder = None; gives = slot.gives + 1; end = end }) (Some q) out' running' due' l
      (record { there = i.there; holder = refl; gives = ap (λ (n : ℕ). n + 1) i.gives; end = refl; core = λ n. (core, refl, refl) })
      (λ before h. now_served (has_ended end) p.gives)
      (omega (arith, a, ap outside there, was_out p.holder held))
      (omega (arith, b, ap unfinished there, ap (λ (x : Bool). cond {A = ℕ} x 0 1) on, one_of (has_ended end)))
      (omega (arith, d, ap unserved there, ap (λ (x : Bool). cond {A = ℕ} (x || nat_lt 0 p.gives) 0 1) on, was_due p.gives, ap (λ (n : ℕ). cond {A = ℕ} (nat_eq n 0) 1 0) i.gives, ap (λ (x : Bool). cond {A = ℕ} x 0 1) (now_served (has_ended end) p.gives)))
    where
      now_served : (b : Bool) (n : ℕ) → b || nat_lt 0 (n + 1) ≡ true
      now_served true n = refl
      now_served false n = grind (arith, nat_tests)

      was_out : (h : Option ℕ) → IsSome h → cond {A = ℕ} (is_none h) 0 1 ≡ 1
      was_out None h = absurd (let x : false ≡ true = h in cc)
      was_out (Some x) h = refl

      one_of : (b : Bool) → cond {A = ℕ} b 0 1 + cond {A = ℕ} b 1 0 ≡ 1
      one_of true = refl
      one_of false = refl

      due_test : (n : ℕ) → nat_lt 0 n ≡ not (nat_eq n 0)
      due_test zero = refl
      due_test (suc n) = grind (arith, nat_tests)

      not_cond : (b : Bool) → cond {A = ℕ} (not b) 0 1 ≡ cond {A = ℕ} b 1 0
      not_cond true = refl
      not_cond false = refl

      was_due : (n : ℕ) → cond {A = ℕ} (nat_lt 0 n) 0 1 ≡ cond {A = ℕ} (nat_eq n 0) 1 0
      was_due n = ap (λ (b : Bool). cond {A = ℕ} b 0 1) (due_test n) ∙ not_cond (nat_eq n 0)

  -- a round
  net_served : (o : Option PageState) → unserved (after_net o) ≡ unfinished o
  net_served None = refl
  net_served (Some p) = by (has_ended p.end)
    where
      by : (b : Bool) → cond {A = ℕ} (b || nat_lt 0 0) 0 1 ≡ cond {A = ℕ} b 0 1
      by true = refl
      by false = refl

  net_outside : (o : Option PageState) → outside (after_net o) ≡ outside o
  net_outside None = refl
  net_outside (Some p) = refl

  net_unfinished : (o : Option PageState) → unfinished (after_net o) ≡ unfinished o
  net_unfinished None = refl
  net_unfinished (Some p) = refl

  net_place : (slot : PageSlot) (o : Option PageState) → IsPlaceOf slot o → IsPlaceOf (record slot { gives = 0 }) (after_net o)
  net_place slot None h = h
  net_place slot (Some p) h = record { there = h.there; holder = h.holder; gives = refl; end = h.end; core = h.core }

  pub net_shows : (slots' : List PageSlot) → length slots' ≡ length slots → ((i : ℕ) (slot : PageSlot) → slice_get slots i ≡ Some slot → slice_get slots' i ≡ Some (record slot { gives = 0 }))
      → ((i : ℕ) (slot : PageSlot) → slice_get slots' i ≡ Some slot → (old : PageSlot) × (slice_get slots i ≡ Some old))
      → ShowsBy size (λ i. after_net (pages i)) slots' out running running 0
  net_shows slots' many each back = record {
    many = many ∙ s.many;
    each = λ i x e. (let b = back i x e in subst (λ (y : PageSlot). IsPlaceOf y (after_net (pages i))) (same_Some (record b.0 { gives = 0 }) x (sym (each i b.0 b.1) ∙ e)) (net_place b.0 (pages i) (s.each i b.0 b.1)));
    out_count = s.out_count ∙ sym (sum_same size (λ i. outside (after_net (pages i))) (λ i. outside (pages i)) (λ i l. net_outside (pages i)));
    running_count = s.running_count ∙ sym (sum_same size (λ i. unfinished (after_net (pages i))) (λ i. unfinished (pages i)) (λ i l. net_unfinished (pages i)));
    due_count = s.running_count ∙ sym (sum_same size (λ i. unserved (after_net (pages i))) (λ i. unfinished (pages i)) (λ i l. net_served (pages i)));
    passed = λ i l. absurd (omega arith);
    within = omega arith;
  }

-- the first number that passes a test
none_before : (n : ℕ) (t : ℕ → Bool) → ((i : ℕ) → i < n → t i ≡ false) → first_to n t ≡ None
none_before zero t h = refl
none_before (suc n) t h = ap (λ o. or_else o (t n) n) (none_before n t (λ i l. h i (omega arith))) ∙ ap (λ b. or_else None b n) (h n (omega arith))

pub first_found : (n k : ℕ) (t : ℕ → Bool) → k < n → t k ≡ true → ((i : ℕ) → i < k → t i ≡ false) → first_to n t ≡ Some k
first_found zero k t l e h = absurd (omega arith)
first_found (suc n) k t l e h =
    elim (last_or n k l) [
      | inl s ↦ ap (λ o. or_else o (t n) n) (none_before n t (λ i m. h i (omega arith))) ∙ ap (λ b. or_else None b n) (ap t (sym s) ∙ e) ∙ ap Some (sym s)
      | inr m ↦ ap (λ o. or_else o (t n) n) (first_found n k t m e h)
    ]

pub first_none : (n : ℕ) (t : ℕ → Bool) → ((i : ℕ) → i < n → t i ≡ false) → first_to n t ≡ None
first_none n t h = none_before n t h

pub passed_on : (size : ℕ) (pages : ℕ → Option PageState) (slots : List PageSlot) (out running due cursor cursor' : ℕ) → ShowsBy size pages slots out running due cursor → cursor' ≡ cursor + 1 → cursor < size → is_served (pages cursor) ≡ true → ShowsBy size pages slots out running due cursor'
passed_on size pages slots out running due cursor cursor' s e l served = record {
  many = s.many;
  each = s.each;
  out_count = s.out_count;
  running_count = s.running_count;
  due_count = s.due_count;
  passed = λ i m. (
      elim (last_or cursor i (omega arith)) [
        | inl h ↦ ap (λ (k : ℕ). is_served (pages k)) h ∙ served
        | inr h ↦ s.passed i h
      ]);
  within = omega arith;
}

-- a slot with a core is one of the slots
pub slot_inside : (slots : List PageSlot) (size leaf : ℕ) → length slots ≡ size → IsSome (core_in (slice_get slots leaf)) → leaf < size
slot_inside slots size leaf e h = by (slice_get slots leaf) refl h
  where
    by : (o : Option PageSlot) → slice_get slots leaf ≡ o → IsSome (core_in o) → leaf < size
    by None f h = absurd (let x : false ≡ true = h in cc)
    by (Some slot) f h = omega (arith, e, slice_get_within slots leaf slot f)

-- each slot forgets its Gives

abbrev forgot : PageSlot → PageSlot
forgot slot = record slot { gives = 0 }

pub record IsForgotten (k : ℕ) (first now : List PageSlot) : Type 0 where
  pub many : length now ≡ length first
  pub done : (i : ℕ) (slot : PageSlot) → i < k → slice_get first i ≡ Some slot → slice_get now i ≡ Some (record slot { gives = 0 })
  pub left : (i : ℕ) (slot : PageSlot) → k ≤ i → slice_get first i ≡ Some slot → slice_get now i ≡ Some slot

set_here : (xs : List PageSlot) (k : ℕ) (x : PageSlot) → k < length xs → slice_get (slice_set xs k x) k ≡ Some x
set_here [] k x l = absurd (omega arith)
set_here (y ∷ ys) zero x l = refl
set_here (y ∷ ys) (suc k) x l = set_here ys k x (omega arith)

set_there : (xs : List PageSlot) (k i : ℕ) (x : PageSlot) → i ≢ k → slice_get (slice_set xs k x) i ≡ slice_get xs i
set_there [] k i x n = refl
set_there (y ∷ ys) zero zero x n = absurd (n refl)
set_there (y ∷ ys) zero (suc i) x n = refl
set_there (y ∷ ys) (suc k) zero x n = refl
set_there (y ∷ ys) (suc k) (suc i) x n = set_there ys k i x (λ s. n (ap suc s))

pub forget_next : (k : ℕ) (first now : List PageSlot) (slot new : PageSlot) → IsForgotten k first now → k < length now → slot ≡ slice_index_or now k slot → new ≡ record slot { gives = 0 } → IsForgotten (k + 1) first (slice_set now k new)
forget_next k first now slot new f l e is = record {
  many = length-set now k new ∙ f.many;
  done = λ i x m g. (
      elim (last_or k i (omega arith)) [
        | inl s ↦ (
            let here : slice_get now k ≡ Some x = ap (slice_get now) (sym s) ∙ f.left i x (omega arith) g in
            let same : slot ≡ x = same_Some slot x (sym (slice_get_read now (length now) k slot refl l e) ∙ here) in
            ap (slice_get (slice_set now k new)) s ∙ set_here now k new l ∙ ap Some (is ∙ ap forgot same))
        | inr m ↦ set_there now k i new (λ (s : i ≡ k). omega arith) ∙ f.done i x m g
      ]);
  left = λ i x m g. set_there now k i new (λ (s : i ≡ k). omega arith) ∙ f.left i x (omega arith) g;
}

pub forget_first : (first : List PageSlot) → IsForgotten 0 first first
forget_first first = record { many = refl; done = λ i slot l g. absurd (omega arith); left = λ i slot l g. g }

past : (xs : List PageSlot) (i : ℕ) → slice_get xs i ≡ None → i < length xs → ⊥
past [] i f l = omega arith
past (x ∷ xs) zero f l = none-some x (sym f)
past (x ∷ xs) (suc i) f l = past xs i f (omega arith)

-- what is there has been there
pub there_before : (old new : List PageSlot) → length new ≡ length old → (i : ℕ) (slot : PageSlot) → slice_get new i ≡ Some slot → (was : PageSlot) × (slice_get old i ≡ Some was)
there_before old new e i slot g = by (slice_get old i) refl
  where
    by : (o : Option PageSlot) → slice_get old i ≡ o → (was : PageSlot) × (slice_get old i ≡ Some was)
    by (Some was) f = (was, f)
    by None f = absurd (past old i f (omega (arith, e, slice_get_within new i slot g)))

-- a slot that is free to be taken, as the code finds it
ready_by : (slot : PageSlot) (p : PageState) → IsSlotOf slot p → is_some slot.holder ≡ false → (b : Bool) → has_ended slot.end ≡ b → is_ready (Some p) ≡ not b && nat_lt slot.gives 4
ready_by slot p s home b on =
    let holder : is_none p.holder ≡ true = ap is_none (sym s.holder) ∙ none_by slot.holder home in
    let ended : has_ended p.end ≡ b = ap has_ended (sym s.end) ∙ on in
    ap (λ (t : Bool). t && (not (has_ended p.end) && nat_lt p.gives 4)) holder ∙ ap (λ (t : Bool). not t && nat_lt p.gives 4) ended ∙ ap (λ (n : ℕ). not b && nat_lt n 4) (sym s.gives)
  where
    none_by : (o : Option ℕ) → is_some o ≡ false → is_none o ≡ true
    none_by None e = refl
    none_by (Some x) e = absurd (let y : true ≡ false = e in cc)

pub ready_is : (slot : PageSlot) (o : Option PageState) → IsPlaceOf slot o → slot.there ≡ true → is_some slot.holder ≡ false → (b : Bool) → has_ended slot.end ≡ b → is_ready o ≡ not b && nat_lt slot.gives 4
ready_is slot None h there home b on = absurd (let x : true ≡ false = sym there ∙ h in cc)
ready_is slot (Some p) h there home b on = ready_by slot p h home b on

pub gives_read : (slots : List PageSlot) (leaf : ℕ) (slot : PageSlot) → leaf < length slots → slot ≡ slice_index_or slots leaf slot → gives_in (slice_get slots leaf) ≡ slot.gives
gives_read slots leaf slot l e = ap gives_in (slice_get_read slots (length slots) leaf slot refl l e)

pub one_most : (b : Bool) → cond {A = ℕ} b 1 0 ≤ 1
one_most true = omega arith
one_most false = omega arith

pub due_most : (n due : ℕ) → (n ≡ 0 → 1 ≤ due) → cond {A = ℕ} (nat_eq n 0) 1 0 ≤ due
due_most zero due h = h refl
due_most (suc n) due h = by (nat_eq (suc n) 0) (grind (arith, nat_tests))
  where
    by : (b : Bool) → b ≡ false → cond {A = ℕ} b 1 0 ≤ due
    by true e = absurd (let x : true ≡ false = e in cc)
    by false e = omega arith

-- Slots as a run begins.

pub AreEmpty : List PageSlot → Type 0
AreEmpty slots = (i : ℕ) (slot : PageSlot) → slice_get slots i ≡ Some slot → slot.there ≡ false

got_push : (xs : List PageSlot) (x y : PageSlot) (i : ℕ) → slice_get (xs ++ x ∷ []) i ≡ Some y → (slice_get xs i ≡ Some y) ⊎ (x ≡ y)
got_push [] x y zero e = inr (same_Some x y e)
got_push [] x y (suc i) e = absurd (none-some y e)
got_push (z ∷ zs) x y zero e = inl e
got_push (z ∷ zs) x y (suc i) e = got_push zs x y i e

pub empty_push : (xs xs' : List PageSlot) (x : PageSlot) → xs' ≡ xs ++ x ∷ [] → x.there ≡ false → AreEmpty xs → AreEmpty xs'
unfolding AreEmpty
empty_push xs xs' x is none h i slot e =
    elim (got_push xs x slot i (ap (λ (l : List PageSlot). slice_get l i) (sym is) ∙ e)) [
      | inl f ↦ h i slot f
      | inr f ↦ ap (λ (s : PageSlot). s.there) (sym f) ∙ none
    ]

pub empty_none : AreEmpty []
unfolding AreEmpty
empty_none i slot e = absurd (none-some slot e)

no_sum : (n : ℕ) → sum_to n (λ i. 0) ≡ 0
no_sum zero = refl
no_sum (suc n) = omega (arith, no_sum n)

pub empty_shows : (size : ℕ) (slots : List PageSlot) → length slots ≡ size → AreEmpty slots → ShowsBy size (λ i. None) slots 0 0 0 0
unfolding AreEmpty
empty_shows size slots many h = record {
  many = many;
  each = λ i slot e. h i slot e;
  out_count = sym (no_sum size);
  running_count = sym (no_sum size);
  due_count = sym (no_sum size);
  passed = λ i l. absurd (omega arith);
  within = omega arith;
}

pub added_shows : (size : ℕ) (pages : ℕ → Option PageState) (slots : List PageSlot) (out running due cursor running' due' leaf : ℕ) (core : PageCore) (slot : PageSlot) → ShowsBy size pages slots out running due cursor → leaf < length slots → pages leaf ≡ None → cursor ≡ 0
    → slot ≡ record { there = true; core = Some core; holder = None; gives = 0; end = None } → running' ≡ running + 1 → due' ≡ due + 1
    → ShowsBy size (placed pages leaf (start_page (Some (core_of core)))) (slice_set slots leaf slot) out running' due' cursor
added_shows size pages slots out running due cursor running' due' leaf core slot s l there first is r d =
    let b : ShowsBy size (placed pages leaf (start_page (Some (core_of core)))) (slice_set slots leaf slot) out running' due' 0 =
    set_shows size pages slots out running due 0 (subst (ShowsBy size pages slots out running due) first s) leaf slot (start_page (Some (core_of core))) out running' due' (omega (arith, l, s.many))
    (subst (λ (x : PageSlot). IsSlotOf x (record { core = core_of core; steps = 0; holder = None; gives = 0; end = None })) (sym is) (record { there = refl; holder = refl; gives = refl; end = refl; core = λ n. (core, refl, refl) }))
    (λ (before : leaf < 0) h. absurd (omega (arith, before))) (omega (arith, ap outside there)) (omega (arith, r, ap unfinished there)) (omega (arith, d, ap unserved there)) in
    subst (ShowsBy size (placed pages leaf (start_page (Some (core_of core)))) (slice_set slots leaf slot) out running' due') (sym first) b
