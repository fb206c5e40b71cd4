-- The least free leaf: where fewer leaves are taken than there are, one of them is free.
use Rattle.std.proofs.Common.{◌≡◌, ℕ, zero, suc, ◌+◌, ◌<◌, ◌≤◌, Bool, true, false, true≢false, ◌||◌, cond, if◌then◌else◌, List, [], ◌∷◌, ◌++◌, length, refl, sym, ap, subst, ◌∙◌, arith}
use Rattle.std.specs.Prelude.{◌==◌}
use Rattle.std.specs.List.{sum_by}
use Rattle.std.proofs.lemmas.List.Sums.{sum_by-cons}
use Rattle.std.proofs.lemmas.List.Folds.{list_any-append}
use Rattle.std.proofs.lemmas.Bool.Decides.{nat_tests}
use Rattle.pld_place.specs.Placing.{is_among, least_free, next_leaf}

pub is_same : (a b : ℕ) → (a == b) ≡ true → a ≡ b
is_same a b h = grind (arith, nat_tests, h)

pub own_test : (x y : ℕ) → x ≡ y → (x == y) ≡ true
own_test x y e = grind (arith, nat_tests, e)

-- ---- what the search for a free leaf finds

pub at_least : (taken : List ℕ) (leaf n : ℕ) → leaf ≤ least_free taken leaf n
at_least taken leaf zero = omega arith
at_least taken leaf (suc n) = by (is_among taken leaf) (at_least taken (leaf + 1) n)
  where
    by : (t : Bool) → leaf + 1 ≤ least_free taken (leaf + 1) n → leaf ≤ (if t then least_free taken (leaf + 1) n else leaf)
    by true more = omega (arith, more)
    by false more = omega arith

found_free : (taken : List ℕ) (leaf n : ℕ) → least_free taken leaf n < leaf + n → is_among taken (least_free taken leaf n) ≡ false
found_free taken leaf zero few = absurd (omega (arith, few))
found_free taken leaf (suc n) few = by (is_among taken leaf) refl few (found_free taken (leaf + 1) n)
  where
    by : (t : Bool) → is_among taken leaf ≡ t → (if t then least_free taken (leaf + 1) n else leaf) < leaf + suc n
        → (least_free taken (leaf + 1) n < leaf + 1 + n → is_among taken (least_free taken (leaf + 1) n) ≡ false)
        → is_among taken (if t then least_free taken (leaf + 1) n else leaf) ≡ false
    by true is l rest = rest (omega (arith, l))
    by false is l rest = is

all_taken : (taken : List ℕ) (leaf n j : ℕ) → leaf ≤ j → j < least_free taken leaf n → is_among taken j ≡ true
all_taken taken leaf zero j from below = absurd (omega (arith, from, below))
all_taken taken leaf (suc n) j from below = by (is_among taken leaf) refl below (all_taken taken (leaf + 1) n j)
  where
    here : (b : Bool) → (leaf == j) ≡ b → is_among taken leaf ≡ true → (leaf + 1 ≤ j → is_among taken j ≡ true) → is_among taken j ≡ true
    here true e is rest = subst (λ x. is_among taken x ≡ true) (is_same leaf j e) is
    here false e is rest = rest (grind (arith, nat_tests, e, from))

    by : (t : Bool) → is_among taken leaf ≡ t → j < (if t then least_free taken (leaf + 1) n else leaf)
        → (leaf + 1 ≤ j → j < least_free taken (leaf + 1) n → is_among taken j ≡ true) → is_among taken j ≡ true
    by true is b rest = here (leaf == j) refl is (λ f. rest f b)
    by false is b rest = absurd (omega (arith, from, b))

-- ---- so many different leaves are no more than the list is long

-- 1 for one of the n leaves from this one on, else 0
abbrev inside : ℕ → ℕ → ℕ → ℕ
inside leaf zero x = 0
inside leaf (suc n) x = inside leaf n x + cond (x == leaf + n) 1 0

record Once (leaf n x : ℕ) : Type 0 where
  most : inside leaf n x ≤ 1
  past : leaf + n ≤ x → inside leaf n x ≡ 0

once : (leaf n x : ℕ) → Once leaf n x
once leaf zero x = record { most = omega arith; past = λ l. refl }
once leaf (suc n) x = by (x == leaf + n) refl (once leaf n x)
  where
    by : (t : Bool) → (x == leaf + n) ≡ t → Once leaf n x → Once leaf (suc n) x
    by true e o =
        let none = o.past (omega (arith, is_same x (leaf + n) e)) in
        let one : cond {A = ℕ} (x == leaf + n) 1 0 ≡ 1 = ap (λ t. cond t 1 0) e in
        record { most = omega (arith, none, one); past = λ l. absurd (omega (arith, l, is_same x (leaf + n) e)) }
    by false e o =
        let most = o.most in
        let zero_here : cond {A = ℕ} (x == leaf + n) 1 0 ≡ 0 = ap (λ t. cond t 1 0) e in
        record { most = omega (arith, most, zero_here); past = λ l. let p = o.past (omega (arith, l)) in omega (arith, p, zero_here) }

within_length : (leaf n : ℕ) (xs : List ℕ) → sum_by (inside leaf n) xs ≤ length xs
within_length leaf n [] = omega arith
within_length leaf n (x ∷ xs) =
    let most = (once leaf n x).most in
    omega (arith, most, within_length leaf n xs, sum_by-cons (inside leaf n) x xs)

two_sums : (f g : ℕ → ℕ) (xs : List ℕ) → sum_by (λ x. f x + g x) xs ≡ sum_by f xs + sum_by g xs
two_sums f g [] = refl
two_sums f g (x ∷ xs) = omega (arith, two_sums f g xs, sum_by-cons f x xs, sum_by-cons g x xs, sum_by-cons (λ y. f y + g y) x xs)

counted : (v : ℕ) (xs : List ℕ) → is_among xs v ≡ true → 1 ≤ sum_by (λ x. cond (x == v) 1 0) xs
counted v [] h = absurd (true≢false (sym h))
counted v (x ∷ xs) h = by (x == v) refl h (counted v xs)
  where
    by : (t : Bool) → (x == v) ≡ t → (t || is_among xs v) ≡ true → (is_among xs v ≡ true → 1 ≤ sum_by (λ y. cond (y == v) 1 0) xs) → 1 ≤ sum_by (λ y. cond (y == v) 1 0) (x ∷ xs)
    by true e g rest =
        let one : cond {A = ℕ} (x == v) 1 0 ≡ 1 = ap (λ t. cond t 1 0) e in
        omega (arith, one, sum_by-cons (λ y. cond (y == v) 1 0) x xs)
    by false e g rest = omega (arith, rest g, sum_by-cons (λ y. cond (y == v) 1 0) x xs)

many : (leaf n : ℕ) (xs : List ℕ) → ((j : ℕ) → leaf ≤ j → j < leaf + n → is_among xs j ≡ true) → n ≤ sum_by (inside leaf n) xs
many leaf zero xs all = omega arith
many leaf (suc n) xs all =
    omega (
      arith,
      many leaf n xs (λ j f b. all j f (omega (arith, b))),
      counted (leaf + n) xs (all (leaf + n) (omega arith) (omega arith)),
      two_sums (inside leaf n) (λ x. cond (x == leaf + n) 1 0) xs,
    )

no_more_than : (leaf n : ℕ) (xs : List ℕ) → ((j : ℕ) → leaf ≤ j → j < leaf + n → is_among xs j ≡ true) → n ≤ length xs
no_more_than leaf n xs all = omega (arith, many leaf n xs all, within_length leaf n xs)

-- ---- the next leaf

pub record IsFree (taken : List ℕ) (last leaf : ℕ) : Type 0 where
  pub least : 1 ≤ leaf
  pub most : leaf ≤ last
  pub free : is_among taken leaf ≡ false

found_at : (taken : List ℕ) (last n leaf : ℕ) → leaf ≡ least_free taken 1 n → length taken < last → last ≤ n → IsFree taken last leaf
found_at taken last n leaf is few deep =
    let least : 1 ≤ leaf = omega (arith, is, at_least taken 1 n) in
    let filled : (m : ℕ) → leaf ≡ 1 + m → m ≤ length taken = λ m e. no_more_than 1 m taken (λ j f b. all_taken taken 1 n j f (omega (arith, is, e, b))) in
    let most : leaf ≤ last = by leaf least filled in
    record {
      least = least;
      most = most;
      free = subst (λ x. is_among taken x ≡ false) (sym is) (found_free taken 1 n (omega (arith, is, most, deep)));
    }
  where
    by : (x : ℕ) → 1 ≤ x → ((m : ℕ) → x ≡ 1 + m → m ≤ length taken) → x ≤ last
    by zero l f = absurd (omega (arith, l))
    by (suc m) l f = omega (arith, f m (omega arith), few)

pub next_is_free : (taken : List ℕ) (last : ℕ) → length taken < last → last ≤ 63 → IsFree taken last (next_leaf taken)
unfolding next_leaf
next_is_free taken last few deep = found_at taken last 63 (least_free taken 1 63) refl few deep

pub among_more : (taken : List ℕ) (leaf x : ℕ) → is_among (taken ++ leaf ∷ []) x ≡ false → (is_among taken x ≡ false) × (leaf ≡ x → ⊥)
among_more taken leaf x h = by (is_among taken x) (leaf == x) refl refl (sym (list_any-append (λ l. l == x) taken (leaf ∷ [])) ∙ h)
  where
    by : (a b : Bool) → is_among taken x ≡ a → (leaf == x) ≡ b → (a || (b || false)) ≡ false → (is_among taken x ≡ false) × (leaf ≡ x → ⊥)
    by true b e f g = absurd (true≢false g)
    by false true e f g = absurd (true≢false g)
    by false false e f g = (e, λ same. true≢false (sym (own_test leaf x same) ∙ f))
