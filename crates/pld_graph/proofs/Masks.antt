-- A number whose bits tell to which leaves operators are pinned.
use Rattle.std.proofs.Common.{◌≡◌, ℕ, zero, suc, ◌+◌, ◌*◌, ◌/◌, ◌%◌, ◌^◌, ◌<◌, ◌≤◌, Bool, true, false, true≢false, cond, ◌&&◌, ◌||◌, not, List, [], ◌∷◌, ◌++◌, length, Option, Some, None, refl, sym, ap, ◌∙◌, subst, arith, w64, if◌then◌else◌}
use Rattle.std.specs.Prelude.{◌==◌, nat_lt, bit_and, bit_or, slice_get, slice_set, remove, IfSome}
use Rattle.std.specs.Int.{bit_at, bit_not}
use Rattle.std.specs.List.{count_by, list_any}
use Rattle.std.proofs.lemmas.Bool.Decides.{nat_tests}
use Rattle.std.proofs.lemmas.List.Sums.{sum_by_push, sum_by-cons, sum_by-set, sum_by-remove}
use Rattle.std.proofs.lemmas.Nat.Bits.{bit_at-lt, bit_at_above, bit_at-zero, bit_at_and, bit_at_set_same, bit_at_set_other, bit_at_clear_same, bit_at_clear_other, same_from_bits}
use Rattle.std.proofs.lemmas.Nat.{shr-shr, shr_split, pow_pos}
use Rattle.std.proofs.Math.Nat.{mod-lt}
use Rattle.std.specs.Map.{values_of}
use Rattle.std.proofs.lemmas.Option.{none-some, same_Some}
use Rattle.pld_graph.specs.declared.operators.Counts.{Counts}
use Rattle.pld_graph.specs.Entries.{listed}
use Rattle.pld_graph.specs.declared.parts.OperatorEntry.{OperatorEntry}
use Rattle.pld_graph.specs.Parts.{passes}
use Rattle.pld_graph.specs.Design.{Design, blank, operator_at, place_from, is_called}
use Rattle.pld_graph.specs.Edits.{is_rival}
use Rattle.pld_graph.specs.Sound.{IsSound, is_pinned}
use Rattle.pld_graph.specs.Masks.{IsMask}
use Rattle.pld_graph.proofs.Sounds.{none_counted, found_here}

differ : (k l : ℕ) → (k == l) ≡ false → l ≡ k → ⊥
differ k l e same =
    let is : k ≡ l = sym same in
    let yes : (k == l) ≡ true = grind (arith, nat_tests, is) in
    true≢false (sym yes ∙ e)

-- a bit behind a change of one
pub set_one : (n k l : ℕ) (b : Bool) → (k == l) ≡ b → k < 64 → bit_at (bit_or n (1 * 2 ^ k % 2 ^ 64)) l ≡ (if b then 1 else bit_at n l)
set_one n k l true e within =
    let same : k ≡ l = grind (arith, nat_tests, e) in
    subst (λ i. bit_at (bit_or n (1 * 2 ^ k % 2 ^ 64)) i ≡ 1) same (bit_at_set_same w64 n k within)
set_one n k l false e within = bit_at_set_other w64 n k within l (differ k l e)

clear_far : (n m l : ℕ) → n < 2 ^ 64 → 64 ≤ l → bit_at (bit_and n m) l ≡ bit_at n l
clear_far n m l small far =
    let none = bit_at_above n 64 l small far in
    let both = bit_at_and n m l in
    omega (arith, none, both)

clear_other : (n k l : ℕ) (t : Bool) → nat_lt l 64 ≡ t → (k == l) ≡ false → k < 64 → n < 2 ^ 64 → bit_at (bit_and n (bit_not w64 (1 * 2 ^ k % 2 ^ 64))) l ≡ bit_at n l
clear_other n k l true h e within small =
    let below : l < 64 = grind (arith, nat_tests, h) in
    bit_at_clear_other w64 n k within l below (differ k l e)
clear_other n k l false h e within small =
    let far : 64 ≤ l = grind (arith, nat_tests, h) in
    clear_far n _ l small far

pub clear_one : (n k l : ℕ) (b : Bool) → (k == l) ≡ b → k < 64 → n < 2 ^ 64 → bit_at (bit_and n (bit_not w64 (1 * 2 ^ k % 2 ^ 64))) l ≡ (if b then 0 else bit_at n l)
clear_one n k l true e within small =
    let same : k ≡ l = grind (arith, nat_tests, e) in
    subst (λ i. bit_at (bit_and n (bit_not w64 (1 * 2 ^ k % 2 ^ 64))) i ≡ 0) same (bit_at_clear_same w64 n k within)
clear_one n k l false e within small = clear_other n k l _ refl e within small

any_counted_at : {X : Type 0} (p : X → Bool) (x : X) (xs : List X) (b : Bool) → p x ≡ b → (list_any p xs ≡ true → 1 ≤ count_by p xs) → (b || list_any p xs) ≡ true → 1 ≤ count_by p (x ∷ xs)
any_counted_at p x xs true here rest e =
    let all = sum_by-cons (λ y. cond (p y) 1 0) x xs ∙ ap (λ b. cond b 1 0 + count_by p xs) here in
    omega (arith, all)
any_counted_at p x xs false here rest e =
    let all = sum_by-cons (λ y. cond (p y) 1 0) x xs ∙ ap (λ b. cond b 1 0 + count_by p xs) here in
    let more = rest e in
    omega (arith, all, more)

any_counted : {X : Type 0} (p : X → Bool) (xs : List X) → list_any p xs ≡ true → 1 ≤ count_by p xs
any_counted p [] e = absurd (true≢false (sym e))
any_counted p (x ∷ xs) e = any_counted_at p x xs (p x) refl (any_counted p xs) e

one_by : {X : Type 0} (p : X → Bool) (xs : List X) (n : ℕ) (b : Bool) → list_any p xs ≡ b → n ≡ count_by p xs → n < 2 → (n == 1) ≡ b
one_by p xs n true e is few =
    let some = any_counted p xs e in
    let one : n ≡ 1 = omega (arith, some, is, few) in
    ap (λ m. m == 1) one
one_by p xs n false e is few =
    let none : n ≡ 0 = is ∙ none_counted p xs e in
    ap (λ m. m == 1) none

-- a leaf's bit tells whether an operator is pinned there
pub told : (os : List OperatorEntry) (mask leaf : ℕ) → IsMask os mask → (bit_at mask leaf == 1) ≡ list_any (is_pinned leaf) os
told os mask leaf m = one_by (is_pinned leaf) os (bit_at mask leaf) _ refl (m.bits leaf) (bit_at-lt mask leaf)

-- an operator's pin is below 64
pinned_counted : (os : List OperatorEntry) (k leaf : ℕ) → k < length os → (operator_at os k).pin ≡ Some leaf → 1 ≤ count_by (is_pinned leaf) os
pinned_counted os k leaf there e =
    let all = sum_by-remove (λ o. cond (is_pinned leaf o) 1 0) os k blank there in
    let same : (leaf == leaf) ≡ true = grind (arith, nat_tests) in
    let one : cond {A = ℕ} (is_pinned leaf (operator_at os k)) 1 0 ≡ 1 = ap (λ o. cond (passes (λ l. l == leaf) o) 1 0) e ∙ ap (λ b. cond b 1 0) same in
    omega (arith, all, one)

not_above : (mask leaf : ℕ) (b : Bool) → nat_lt leaf 64 ≡ b → mask < 2 ^ 64 → 1 ≤ bit_at mask leaf → leaf < 64
not_above mask leaf true e small some = grind (arith, nat_tests, e)
not_above mask leaf false e small some =
    let far : 64 ≤ leaf = grind (arith, nat_tests, e) in
    let none = bit_at_above mask 64 leaf small far in
    absurd (omega (arith, none, some))

pin_below : (os : List OperatorEntry) (mask k : ℕ) (pin : Option ℕ) → (operator_at os k).pin ≡ pin → k < length os → IsMask os mask → IfSome pin (λ leaf. leaf < 64)
pin_below os mask k None e there m = tt
pin_below os mask k (Some leaf) e there m =
    let some = pinned_counted os k leaf there e in
    let is = m.bits leaf in
    not_above mask leaf _ refl m.small (omega (arith, some, is))

pub below : (os : List OperatorEntry) (mask k : ℕ) → k < length os → IsMask os mask → IfSome (operator_at os k).pin (λ leaf. leaf < 64)
below os mask k there m = pin_below os mask k _ refl there m

-- the pin of the operator at a place
pub value_pin : (es : List (List ℕ × Counts)) (k : ℕ) (v : Counts) → slice_get (values_of es) k ≡ Some v → (operator_at (listed es) k).pin ≡ v.pin
value_pin [] k v e = absurd (none-some v e)
value_pin (d ∷ es) zero v e = ap (λ (x : Counts). x.pin) (same_Some d.1 v e)
value_pin (d ∷ es) (suc k) v e = value_pin es k v e

pub value_below : (es : List (List ℕ × Counts)) (mask k : ℕ) (v : Counts) → slice_get (values_of es) k ≡ Some v → k < length (listed es) → IsMask (listed es) mask → IfSome v.pin (λ leaf. leaf < 64)
value_below es mask k v e there m = subst (λ p. IfSome p (λ leaf. leaf < 64)) (value_pin es k v e) (below (listed es) mask k there m)

-- one bit behind a change: b tells the new pin, c the old one
set_bit : (b c : Bool) (n n' rest bit : ℕ) → n' + cond c 1 0 ≡ n + cond b 1 0 → rest + cond c 1 0 ≡ n → bit ≡ n → bit < 2 → (b ≡ true → rest ≡ 0) → cond b 1 (cond c 0 bit) ≡ n'
set_bit true c n n' rest bit change less is few free =
    let none = free refl in
    omega (arith, change, less, none)
set_bit false true n n' rest bit change less is few free = omega (arith, change, less, is, few)
set_bit false false n n' rest bit change less is few free = omega (arith, change, less, is, few)

-- another pin at a place
pub set_masked : (os : List OperatorEntry) (mask mask' k : ℕ) (o : OperatorEntry) → k < length os → IsMask os mask
    → ((l : ℕ) → bit_at mask' l ≡ cond (is_pinned l o) 1 (cond (is_pinned l (operator_at os k)) 0 (bit_at mask l)))
    → ((l : ℕ) → is_pinned l o ≡ true → count_by (is_pinned l) (remove os k) ≡ 0) → mask' < 2 ^ 64 → IsMask (slice_set os k o) mask'
set_masked os mask mask' k o there m bits free small = record {
  bits = λ l.
      let change = sum_by-set (λ x. cond (is_pinned l x) 1 0) os k o blank there in
      let less = sum_by-remove (λ x. cond (is_pinned l x) 1 0) os k blank there in
      bits l ∙ set_bit (is_pinned l o) (is_pinned l (operator_at os k)) _ _ _ (bit_at mask l) change less (m.bits l) (bit_at-lt mask l) (free l);
  small = small;
}

-- the leaf is the one that is free
freed : (os : List OperatorEntry) (k leaf l : ℕ) → count_by (is_pinned leaf) (remove os k) ≡ 0 → (leaf == l) ≡ true → count_by (is_pinned l) (remove os k) ≡ 0
freed os k leaf l none e =
    let same : leaf ≡ l = grind (arith, nat_tests, e) in
    subst (λ m. count_by (is_pinned m) (remove os k) ≡ 0) same none

pub pin_masked : (os : List OperatorEntry) (mask less mask' k leaf : ℕ) → k < length os → IsMask os mask → count_by (is_pinned leaf) (remove os k) ≡ 0
    → ((l : ℕ) → bit_at less l ≡ (if passes (λ p. p == l) (operator_at os k).pin then 0 else bit_at mask l)) → ((l : ℕ) → bit_at mask' l ≡ (if leaf == l then 1 else bit_at less l)) → mask' < 2 ^ 64
    → IsMask (slice_set os k (record (operator_at os k) { pin = Some leaf })) mask'
pin_masked os mask less mask' k leaf there m none first second small =
    set_masked os mask mask' k (record (operator_at os k) { pin = Some leaf }) there m (λ l. second l ∙ ap (λ n. cond (leaf == l) 1 n) (first l)) (λ l e. freed os k leaf l none e) small

pub unpin_masked : (os : List OperatorEntry) (mask mask' k : ℕ) → k < length os → IsMask os mask
    → ((l : ℕ) → bit_at mask' l ≡ (if passes (λ p. p == l) (operator_at os k).pin then 0 else bit_at mask l)) → mask' < 2 ^ 64
    → IsMask (slice_set os k (record (operator_at os k) { pin = None })) mask'
unpin_masked os mask mask' k there m bits small = set_masked os mask mask' k (record (operator_at os k) { pin = None }) there m bits (λ l e. absurd (true≢false (sym e))) small

pub remove_masked : (os : List OperatorEntry) (mask mask' k : ℕ) → k < length os → IsMask os mask
    → ((l : ℕ) → bit_at mask' l ≡ (if passes (λ p. p == l) (operator_at os k).pin then 0 else bit_at mask l)) → mask' < 2 ^ 64 → IsMask (remove os k) mask'
remove_masked os mask mask' k there m bits small = record {
  bits = λ l.
      let less = sum_by-remove (λ x. cond (is_pinned l x) 1 0) os k blank there in
      let change : count_by (is_pinned l) (remove os k) + cond {A = ℕ} (is_pinned l (operator_at os k)) 1 0 ≡ count_by (is_pinned l) os + 0 = omega (arith, less) in
      bits l ∙ set_bit false (is_pinned l (operator_at os k)) _ _ _ (bit_at mask l) change less (m.bits l) (bit_at-lt mask l) (λ e. absurd (true≢false (sym e)));
  small = small;
}

-- an operator without a pin more
pub push_masked : (os : List OperatorEntry) (mask : ℕ) (o : OperatorEntry) → o.pin ≡ None → IsMask os mask → IsMask (os ++ o ∷ []) mask
push_masked os mask o free m = record {
  bits = λ l.
      let more = sum_by_push (λ x. cond (is_pinned l x) 1 0) os o in
      let none : cond {A = ℕ} (is_pinned l o) 1 0 ≡ 0 = ap (λ p. cond (passes (λ q. q == l) p) 1 0) free in
      let is = m.bits l in
      omega (arith, more, none, is);
  small = m.small;
}

-- other counts of ports
pub count_masked : (os : List OperatorEntry) (mask k : ℕ) (o : OperatorEntry) → k < length os → o.pin ≡ (operator_at os k).pin → IsMask os mask → IsMask (slice_set os k o) mask
count_masked os mask k o there same m = record {
  bits = λ l.
      let change = sum_by-set (λ x. cond (is_pinned l x) 1 0) os k o blank there in
      let as_before : cond {A = ℕ} (is_pinned l o) 1 0 ≡ cond (is_pinned l (operator_at os k)) 1 0 = ap (λ p. cond (passes (λ q. q == l) p) 1 0) same in
      let is = m.bits l in
      omega (arith, change, as_before, is);
  small = m.small;
}

-- where nobody is pinned to a leaf from n on
abbrev past : ℕ → OperatorEntry → Bool
past n o = passes (λ l. not (nat_lt l n)) o.pin

apart : (n l p : ℕ) (t : Bool) → nat_lt p n ≡ t → not (nat_lt p n) ≡ false → n ≤ l → (p == l) ≡ false
apart n l p true e w far = grind (arith, nat_tests, e, far)
apart n l p false e w far = absurd (true≢false (sym (ap not e) ∙ w))

past_one : (n l : ℕ) (o : Option ℕ) → passes (λ p. not (nat_lt p n)) o ≡ false → n ≤ l → cond {A = ℕ} (passes (λ p. p == l) o) 1 0 ≡ 0
past_one n l None e far = refl
past_one n l (Some p) e far = ap (λ t. cond {A = ℕ} t 1 0) (apart n l p _ refl e far)

or_false : (a b : Bool) → (a || b) ≡ false → (a ≡ false) × (b ≡ false)
or_false true b e = absurd (true≢false e)
or_false false b e = (refl, e)

none_past : (n l : ℕ) (os : List OperatorEntry) → list_any (past n) os ≡ false → n ≤ l → count_by (is_pinned l) os ≡ 0
none_past n l [] e far = refl
none_past n l (o ∷ os) e far =
    let both = or_false (past n o) (list_any (past n) os) e in
    let all = sum_by-cons (λ x. cond (is_pinned l x) 1 0) o os in
    let here = past_one n l o.pin both.0 far in
    let rest = none_past n l os both.1 far in
    omega (arith, all, here, rest)

within_at : (n p : ℕ) (o : OperatorEntry) (os : List OperatorEntry) (t : Bool) → nat_lt p n ≡ t → o.pin ≡ Some p → ((l : ℕ) → n ≤ l → count_by (is_pinned l) (o ∷ os) ≡ 0) → not (nat_lt p n) ≡ false
within_at n p o os true h e none = ap not h
within_at n p o os false h e none =
    let far : n ≤ p = grind (arith, nat_tests, h) in
    let same : (p == p) ≡ true = grind (arith, nat_tests) in
    let one : cond {A = ℕ} (is_pinned p o) 1 0 ≡ 1 = ap (λ q. cond {A = ℕ} (passes (λ l. l == p) q) 1 0) e ∙ ap (λ b. cond b 1 0) same in
    let all = sum_by-cons (λ x. cond (is_pinned p x) 1 0) o os in
    let zero_there = none p far in
    absurd (omega (arith, all, one, zero_there))

some_past_at : (n : ℕ) (o : OperatorEntry) (os : List OperatorEntry) (pin : Option ℕ) → o.pin ≡ pin → ((l : ℕ) → n ≤ l → count_by (is_pinned l) (o ∷ os) ≡ 0) → passes (λ l. not (nat_lt l n)) pin ≡ false
some_past_at n o os None e none = refl
some_past_at n o os (Some p) e none = within_at n p o os _ refl e none

none_far : (n : ℕ) (os : List OperatorEntry) → ((l : ℕ) → n ≤ l → count_by (is_pinned l) os ≡ 0) → list_any (past n) os ≡ false
none_far n [] none = refl
none_far n (o ∷ os) none =
    let here = some_past_at n o os _ refl none in
    let rest = none_far n os (λ l far. let all = sum_by-cons (λ x. cond (is_pinned l x) 1 0) o os in let z = none l far in omega (arith, all, z)) in
    ap (λ b. b || list_any (past n) os) here ∙ rest

-- no bit from n on
low : (mask n : ℕ) → ((l : ℕ) → n ≤ l → bit_at mask l ≡ 0) → mask < 2 ^ n
low mask n zeros =
    let none : mask / 2 ^ n ≡ 0 = same_from_bits (mask / 2 ^ n) 0 (λ i. ap (λ x. x % 2) (shr-shr mask n i) ∙ zeros (n + i) (omega arith) ∙ sym (bit_at-zero i)) in
    let whole : 0 * 2 ^ n + mask % 2 ^ n ≡ mask = ap (λ x. x * 2 ^ n + mask % 2 ^ n) (sym none) ∙ shr_split mask n in
    let few : mask % 2 ^ n < 2 ^ n = mod-lt mask (pow_pos n) in
    omega (arith, whole, few)

some_far : (os : List OperatorEntry) (mask n : ℕ) (t : Bool) → nat_lt mask (2 ^ n) ≡ t → list_any (past n) os ≡ true → IsMask os mask → not (nat_lt mask (2 ^ n)) ≡ true
some_far os mask n false h e m = ap not h
some_far os mask n true h e m =
    let small : mask < 2 ^ n = grind (arith, nat_tests, h) in
    absurd (true≢false (sym e ∙ none_far n os (λ l far. sym (m.bits l) ∙ bit_at_above mask n l small far)))

far_by : (os : List OperatorEntry) (mask n : ℕ) (b : Bool) → list_any (past n) os ≡ b → IsMask os mask → not (nat_lt mask (2 ^ n)) ≡ b
far_by os mask n false e m =
    let small = low mask n (λ l far. m.bits l ∙ none_past n l os e far) in
    let is : nat_lt mask (2 ^ n) ≡ true = grind (arith, nat_tests, small) in
    ap not is
far_by os mask n true e m = some_far os mask n _ refl e m

-- the mask tells whether an operator is pinned to a leaf from n on
pub far : (os : List OperatorEntry) (mask n : ℕ) → IsMask os mask → not (nat_lt mask (2 ^ n)) ≡ list_any (past n) os
far os mask n m = far_by os mask n _ refl m

-- ---- an operator of another name

uncounted : (b : Bool) → cond {A = ℕ} b 1 0 ≡ 0 → b ≡ false
uncounted true e = absurd (omega (arith, e))
uncounted false e = refl

none_called : (name : List ℕ) (leaf : ℕ) (os : List OperatorEntry) → count_by (is_called name) os ≡ 0 → list_any (is_rival name leaf) os ≡ list_any (is_pinned leaf) os
none_called name leaf [] none = refl
none_called name leaf (o ∷ os) none =
    let all = sum_by-cons (λ x. cond (is_called name x) 1 0) o os in
    let rest : count_by (is_called name) os ≡ 0 = omega (arith, all, none) in
    let here : cond {A = ℕ} (is_called name o) 1 0 ≡ 0 = omega (arith, all, none) in
    let other = uncounted (is_called name o) here in
    λ i. (not (other i) && is_pinned leaf o) || none_called name leaf os rest i

uncounted_any : {X : Type 0} (p : X → Bool) (xs : List X) (t : Bool) → list_any p xs ≡ t → count_by p xs ≡ 0 → t ≡ false
uncounted_any p xs true h z = let some = any_counted p xs h in absurd (omega (arith, some, z))
uncounted_any p xs false h z = refl

-- the first one has the name: no other may have it, or its leaf
first_own : (p : OperatorEntry → Bool) (os : List OperatorEntry) (b : Bool) → cond {A = ℕ} b 1 0 + count_by p os ≤ 1 → (not b && (b || list_any p os)) ≡ list_any p os
first_own p os true few = sym (uncounted_any p os _ refl (omega (arith, few)))
first_own p os false few = refl

own_counted : (os : List OperatorEntry) (k leaf : ℕ) → k < length os → is_pinned leaf (operator_at os k) ≡ true → 1 ≤ count_by (is_pinned leaf) os
own_counted os k leaf within e =
    let all = sum_by-remove (λ o. cond (is_pinned leaf o) 1 0) os k blank within in
    let one : cond {A = ℕ} (is_pinned leaf (operator_at os k)) 1 0 ≡ 1 = ap (λ b. cond {A = ℕ} b 1 0) e in
    omega (arith, all, one)

-- the one of the name stands later
later_own : (os : List OperatorEntry) (k leaf : ℕ) (own b : Bool) → is_pinned leaf (operator_at os k) ≡ own → k < length os → cond {A = ℕ} b 1 0 + count_by (is_pinned leaf) os ≤ 1 → (not own && (b || list_any (is_pinned leaf) os)) ≡ (b || (not own && list_any (is_pinned leaf) os))
later_own os k leaf true true e within few = let some = own_counted os k leaf within e in absurd (omega (arith, some, few))
later_own os k leaf true false e within few = refl
later_own os k leaf false b e within few = refl

rivals : (name : List ℕ) (leaf k : ℕ) (os : List OperatorEntry) → k < length os → is_called name (operator_at os k) ≡ true → count_by (is_called name) os ≤ 1 → count_by (is_pinned leaf) os ≤ 1
    → (not (is_pinned leaf (operator_at os k)) && list_any (is_pinned leaf) os) ≡ list_any (is_rival name leaf) os
rivals name leaf k [] within called once alone = absurd (omega (arith, within))
rivals name leaf zero (o ∷ os) within called once alone =
    let names = sum_by-cons (λ x. cond (is_called name x) 1 0) o os in
    let pins = sum_by-cons (λ x. cond (is_pinned leaf x) 1 0) o os in
    let one : cond {A = ℕ} (is_called name o) 1 0 ≡ 1 = ap (λ b. cond {A = ℕ} b 1 0) called in
    let none : count_by (is_called name) os ≡ 0 = omega (arith, names, one, once) in
    first_own (is_pinned leaf) os (is_pinned leaf o) (omega (arith, pins, alone))
    ∙ sym (none_called name leaf os none) ∙ ap (λ c. (not c && is_pinned leaf o) || list_any (is_rival name leaf) os) (sym called)
rivals name leaf (suc k) (o ∷ os) within called once alone =
    let names = sum_by-cons (λ x. cond (is_called name x) 1 0) o os in
    let pins = sum_by-cons (λ x. cond (is_pinned leaf x) 1 0) o os in
    let l : k < length os = omega (arith, within) in
    let some = sum_by-remove (λ x. cond (is_called name x) 1 0) os k blank l in
    let one : cond {A = ℕ} (is_called name (operator_at os k)) 1 0 ≡ 1 = ap (λ b. cond {A = ℕ} b 1 0) called in
    let other = uncounted (is_called name o) (omega (arith, names, some, one, once)) in
    later_own os k leaf _ (is_pinned leaf o) refl l (omega (arith, pins, alone))
    ∙ ap (λ r. is_pinned leaf o || r) (rivals name leaf k os l called (omega (arith, names, once)) (omega (arith, pins, alone)))
    ∙ ap (λ c. (not c && is_pinned leaf o) || list_any (is_rival name leaf) os) (sym other)

-- of a sound design's operators
pub rival_told : (d : Design) (name : List ℕ) (leaf k : ℕ) → k < length d.operators → Some k ≡ place_from 0 name d.operators → IsSound d
    → (not (is_pinned leaf (operator_at d.operators k)) && list_any (is_pinned leaf) d.operators) ≡ list_any (is_rival name leaf) d.operators
rival_told d name leaf k within place s =
    let names = s.names name in
    rivals name leaf k d.operators within (found_here k name d.operators (sym place)) (omega (arith, names)) (s.alone leaf)
