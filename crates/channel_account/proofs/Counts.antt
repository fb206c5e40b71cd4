-- Counts in lists of numbered words.
use Rattle.std.proofs.Common.{◌≡◌, ℕ, zero, suc, ◌+◌, ◌-◌, ◌*◌, ◌/◌, ◌%◌, ◌<◌, ◌≤◌, ◌≢◌, Bool, true, false, cond, List, [], ◌∷◌, ◌++◌, length, refl, ap, sym, ◌∙◌, arith, Option, Some, None, inl, inr}
use Rattle.std.specs.Prelude.{slice_index_or, slice_set, ◌==◌, nat_le}
use Rattle.std.specs.List.{sum_by}
use Rattle.std.proofs.lemmas.Bool.{cases_lt}
use Rattle.std.proofs.lemmas.Bool.Decides.{nat_tests}
use Rattle.std.proofs.lemmas.List.Sums.{sum_by-cons, sum_by_push, sum_by-append}
use Rattle.std.proofs.lemmas.Nat.{mod-mul-add, mod_below, div-add-mod'}
use Rattle.channel_account.specs.Account.{Numbered, numbered, in_slots}

-- what x weighs
abbrev pub one : {X : Type 0} → (X → ℕ) → X → ℕ
one {X} f x = f x

pub count-cons : {X : Type 0} (f : X → ℕ) (x : X) (xs : List X) → sum_by f (x ∷ xs) ≡ one f x + sum_by f xs
count-cons {X} f x xs = sum_by-cons f x xs

pub count-append : {X : Type 0} (f : X → ℕ) (xs ys : List X) → sum_by f (xs ++ ys) ≡ sum_by f xs + sum_by f ys
count-append {X} f xs ys = sum_by-append f xs ys

pub count_push : {X : Type 0} (f : X → ℕ) (xs : List X) (x : X) → sum_by f (xs ++ x ∷ []) ≡ sum_by f xs + one f x
count_push {X} f xs x = sum_by_push f xs x

pub count_all : {X : Type 0} (xs : List X) → sum_by (λ _. 1) xs ≡ length xs
count_all {X} [] = refl
count_all {X} (x ∷ xs) = omega (arith, count-cons {X = X} (λ _. 1) x xs, count_all {X = X} xs)

-- the next number
pub mod_next : (n w : ℕ) → 0 < w → (n % w + 1) % w ≡ (n + 1) % w
mod_next n w l =
    let e : n / w * w + n % w ≡ n = div-add-mod' n w in
    let below : n % w < w = mod_below n w l in
    elim (cases_lt (n % w + 1) w) [
      | inl small ↦ (
          let a : ((n / w) * w + (n % w + 1)) % w ≡ n % w + 1 = mod-mul-add (n / w) w (n % w + 1) small in
          let b : (n / w) * w + (n % w + 1) ≡ n + 1 = omega (arith, e) in
          let c : (0 * w + (n % w + 1)) % w ≡ n % w + 1 = mod-mul-add 0 w (n % w + 1) small in
          let d : 0 * w + (n % w + 1) ≡ n % w + 1 = omega arith in
          ap (λ (k : ℕ). k % w) (sym d) ∙ c ∙ sym a ∙ ap (λ (k : ℕ). k % w) b)
      | inr big ↦ (
          let whole : n % w + 1 ≡ w = omega arith in
          let a : ((n / w + 1) * w + 0) % w ≡ 0 = mod-mul-add (n / w + 1) w 0 l in
          let b : (n / w + 1) * w + 0 ≡ n + 1 = omega (arith, e) in
          let c : (1 * w + 0) % w ≡ 0 = mod-mul-add 1 w 0 l in
          let d : 1 * w + 0 ≡ n % w + 1 = omega arith in
          ap (λ (k : ℕ). k % w) (sym d) ∙ c ∙ sym a ∙ ap (λ (k : ℕ). k % w) b)
    ]

-- places less than a window apart have different numbers
pub mod_apart : (n k w : ℕ) → 0 < k → k < w → (n + k) % w ≢ n % w
mod_apart n k w l m =
    let e : n / w * w + n % w ≡ n = div-add-mod' n w in
    let below : n % w < w = mod_below n w (omega arith) in
    elim (cases_lt (n % w + k) w) [
      | inl small ↦ (
          let a : ((n / w) * w + (n % w + k)) % w ≡ n % w + k = mod-mul-add (n / w) w (n % w + k) small in
          let b : (n / w) * w + (n % w + k) ≡ n + k = omega (arith, e) in
          let c : (n + k) % w ≡ n % w + k = ap (λ (j : ℕ). j % w) (sym b) ∙ a in
          λ h. omega (arith, c, h))
      | inr big ↦ (
          let r : n % w + k - w < w = omega arith in
          let a : ((n / w + 1) * w + (n % w + k - w)) % w ≡ n % w + k - w = mod-mul-add (n / w + 1) w (n % w + k - w) r in
          let b : (n / w + 1) * w + (n % w + k - w) ≡ n + k = omega (arith, e) in
          let c : (n + k) % w ≡ n % w + k - w = ap (λ (j : ℕ). j % w) (sym b) ∙ a in
          λ h. omega (arith, c, h))
    ]

-- 1 where a word has this number
abbrev pub has_number : ℕ → Numbered → ℕ
has_number n x = cond (x.0 == n) 1 0

one_none : (n : ℕ) (x : Numbered) → x.0 ≢ n → one (has_number n) x ≡ 0
one_none n x h = let z : (x.0 == n) ≡ false = grind (arith, nat_tests) in rw z refl

one_le_at : (b : Bool) → (let n : ℕ = cond b 1 0 in n ≤ 1)
one_le_at true = omega arith
one_le_at false = omega arith

pub number_le : (n : ℕ) (x : Numbered) → has_number n x ≤ 1
number_le n x = one_le_at (x.0 == n)

-- no word from k places further on has the number of place n
pub apart_from : (w n k : ℕ) (ws : List ℕ) → 0 < k → k + length ws ≤ w → sum_by (has_number (n % w)) (numbered w (n + k) ws) ≡ 0
apart_from w n k [] l m = refl
apart_from w n k (v ∷ vs) l m =
    let z : one (has_number (n % w)) ((n + k) % w, v) ≡ 0 = one_none (n % w) ((n + k) % w, v) (mod_apart n k w l (omega arith)) in
    let ih : sum_by (has_number (n % w)) (numbered w (n + (k + 1)) vs) ≡ 0 = apart_from w n (k + 1) vs (omega arith) (omega arith) in
    let s : n + (k + 1) ≡ n + k + 1 = omega arith in
    let ih' : sum_by (has_number (n % w)) (numbered w (n + k + 1) vs) ≡ 0 = ap (λ (j : ℕ). sum_by (has_number (n % w)) (numbered w j vs)) (sym s) ∙ ih in
    count-cons (has_number (n % w)) ((n + k) % w, v) (numbered w (n + k + 1) vs) ∙ omega arith

-- at most one word of a window has a number
number_at : (w n m : ℕ) (v : ℕ) (vs : List ℕ) (b : Bool) → (n % w == m) ≡ b → 1 + length vs ≤ w → sum_by (has_number m) (numbered w (n + 1) vs) ≤ 1 → sum_by (has_number m) (numbered w n (v ∷ vs)) ≤ 1
number_at w n m v vs true e l ih =
    let same : n % w ≡ m = grind (arith, nat_tests) in
    let z : sum_by (has_number (n % w)) (numbered w (n + 1) vs) ≡ 0 = apart_from w n 1 vs (omega arith) l in
    let z' : sum_by (has_number m) (numbered w (n + 1) vs) ≡ 0 = ap (λ (j : ℕ). sum_by (has_number j) (numbered w (n + 1) vs)) (sym same) ∙ z in
    omega (arith, count-cons (has_number m) (n % w, v) (numbered w (n + 1) vs), number_le m (n % w, v))
number_at w n m v vs false e l ih =
    let z : one (has_number m) (n % w, v) ≡ 0 = rw e refl in
    omega (arith, count-cons (has_number m) (n % w, v) (numbered w (n + 1) vs))

pub number_once : (w n m : ℕ) (ws : List ℕ) → length ws ≤ w → sum_by (has_number m) (numbered w n ws) ≤ 1
number_once w n m [] l = omega arith
number_once w n m (v ∷ vs) l = number_at w n m v vs (n % w == m) refl (omega arith) (number_once w (n + 1) m vs (omega arith))

-- each number is below the window
abbrev pub past_window : ℕ → Numbered → ℕ
past_window w x = cond (nat_le w x.0) 1 0

pub number_below : (w n : ℕ) (ws : List ℕ) → 0 < w → sum_by (past_window w) (numbered w n ws) ≡ 0
number_below w n [] l = refl
number_below w n (v ∷ vs) l =
    let below : n % w < w = mod_below n w l in
    let z : nat_le w (n % w) ≡ false = grind (arith, nat_tests) in
    let z' : one (past_window w) (n % w, v) ≡ 0 = rw z refl in
    count-cons (past_window w) (n % w, v) (numbered w (n + 1) vs) ∙ omega (arith, number_below w (n + 1) vs l)

pub numbered_push : (w n : ℕ) (ws : List ℕ) (v : ℕ) → numbered w n (ws ++ v ∷ []) ≡ numbered w n ws ++ ((n + length ws) % w, v) ∷ []
numbered_push w n [] v = ap (λ (k : ℕ). (k % w, v) ∷ []) (let e : n ≡ n + 0 = omega arith in e)
numbered_push w n (x ∷ xs) v =
    let e : n + 1 + length xs ≡ n + length (x ∷ xs) = omega arith in
    ap (λ (t : List Numbered). (n % w, x) ∷ t) (numbered_push w (n + 1) xs v ∙ ap (λ (k : ℕ). numbered w (n + 1) xs ++ (k % w, v) ∷ []) e)

pub length-numbered : (w n : ℕ) (ws : List ℕ) → length (numbered w n ws) ≡ length ws
length-numbered w n [] = refl
length-numbered w n (x ∷ xs) = omega (arith, length-numbered w (n + 1) xs)

-- a slot that is filled
pub slots_fill : (f : Numbered → ℕ) (os : List (Option ℕ)) (n i w : ℕ) → i < length os → slice_index_or os i None ≡ None → sum_by f (in_slots n (slice_set os i (Some w))) ≡ one f (n + i, w) + sum_by f (in_slots n os)
slots_fill f [] n i w l e = absurd (omega arith)
slots_fill f (Some v ∷ os) n zero w l e = cc
slots_fill f (None ∷ os) n zero w l e =
    count-cons f (n, w) (in_slots (n + 1) os) ∙ ap (λ (k : ℕ). one f (k, w) + sum_by f (in_slots (n + 1) os)) (let z : n ≡ n + 0 = omega arith in z)
slots_fill f (None ∷ os) n (suc i) w l e =
    slots_fill f os (n + 1) i w (omega arith) e ∙ ap (λ (k : ℕ). one f (k, w) + sum_by f (in_slots (n + 1) os)) (let z : n + 1 + i ≡ n + suc i = omega arith in z)
slots_fill f (Some v ∷ os) n (suc i) w l e =
    let z : n + 1 + i ≡ n + suc i = omega arith in
    let ih : sum_by f (in_slots (n + 1) (slice_set os i (Some w))) ≡ one f (n + suc i, w) + sum_by f (in_slots (n + 1) os) = slots_fill f os (n + 1) i w (omega arith) e ∙ ap (λ (k : ℕ). one f (k, w) + sum_by f (in_slots (n + 1) os)) z in
    count-cons f (n, v) (in_slots (n + 1) (slice_set os i (Some w))) ∙ omega (arith, count-cons f (n, v) (in_slots (n + 1) os))

-- a slot that is emptied
pub slots_empty : (f : Numbered → ℕ) (os : List (Option ℕ)) (n i w : ℕ) → slice_index_or os i None ≡ Some w → one f (n + i, w) + sum_by f (in_slots n (slice_set os i None)) ≡ sum_by f (in_slots n os)
slots_empty f [] n i w e = cc
slots_empty f (None ∷ os) n zero w e = cc
slots_empty f (Some v ∷ os) n zero w e =
    let same : v ≡ w = cc in
    let z : n ≡ n + 0 = omega arith in
    ap (λ (k : ℕ). one f (k, w) + sum_by f (in_slots (n + 1) os)) (sym z) ∙ (ap (λ (x : ℕ). one f (n, x) + sum_by f (in_slots (n + 1) os)) (sym same) ∙ sym (count-cons f (n, v) (in_slots (n + 1) os)))
slots_empty f (None ∷ os) n (suc i) w e =
    let z : n + 1 + i ≡ n + suc i = omega arith in
    ap (λ (k : ℕ). one f (k, w) + sum_by f (in_slots (n + 1) (slice_set os i None))) (sym z) ∙ slots_empty f os (n + 1) i w e
slots_empty f (Some v ∷ os) n (suc i) w e =
    let z : n + 1 + i ≡ n + suc i = omega arith in
    let ih : one f (n + suc i, w) + sum_by f (in_slots (n + 1) (slice_set os i None)) ≡ sum_by f (in_slots (n + 1) os) = ap (λ (k : ℕ). one f (k, w) + sum_by f (in_slots (n + 1) (slice_set os i None))) (sym z) ∙ slots_empty f os (n + 1) i w e in
    omega (arith, count-cons f (n, v) (in_slots (n + 1) (slice_set os i None)), count-cons f (n, v) (in_slots (n + 1) os))
