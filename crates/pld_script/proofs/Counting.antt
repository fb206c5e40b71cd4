-- The value of digits, read one by one.
use Rattle.std.proofs.Common.{◌≡◌, ℕ, ◌+◌, ◌*◌, ◌^◌, ◌<◌, ◌≤◌, List, ◌∷◌, ◌-◌, ◌&&◌, Bool, true, false, cond, nat_le, nat_lt, [], length, drop, get_or, min, refl, sym, ap, ◌∙◌, arith, add-one, drop-cons, Option, Some, None, IfSome, inl, inr}
use Rattle.std.proofs.lemmas.Bool.Decides.{nat_tests}
use Rattle.std.proofs.lemmas.Bool.{cases_lt}
use Rattle.std.proofs.Math.Nat.{mul-le-mul_right}
use Rattle.pld_script.specs.Numbers.{below, digit_in, number_from, number_in, capped}

-- So many digits were read, and their value is told up to the limit.
pub record Counts (base : ℕ) (digits : List ℕ) (i value : ℕ) : Type 0 where
  pub total : ℕ
  pub same : number_from base total (drop i digits) ≡ number_in base digits
  pub told : value ≡ min total (2 ^ 32)

-- once a value has come to the limit, all that follow stand there
saturated : (base n m d : ℕ) → 1 ≤ base → n ≡ min m (2 ^ 32) → min (base * n + d) (2 ^ 32) ≡ min (base * m + d) (2 ^ 32)
saturated base n m d h e =
    elim (cases_lt m (2 ^ 32)) [
      | inl below ↦ let same : n ≡ m = omega arith in ap (λ k. min (base * k + d) (2 ^ 32)) same
      | inr above ↦ omega (arith, mul-le-mul_right n h, mul-le-mul_right m h)
    ]

next_total : (base total b d : ℕ) (later : List ℕ) → Some d ≡ digit_in base b → number_from base total (b ∷ later) ≡ number_from base (base * total + d) later
next_total base total b d later e = ap (λ o. elim o as (λ _. Option ℕ) [ None ↦ None | Some k ↦ number_from base (base * total + k) later ]) (sym e)

cut : (digits : List ℕ) (i : ℕ) → i < length digits → drop i digits ≡ get_or digits i 0 ∷ drop (i + 1) digits
cut digits i h = rw (add-one, drop-cons digits i 0 h)

pub counts_more : (base i value d new : ℕ) (digits : List ℕ) → Counts base digits i value → 1 ≤ base → i < length digits
    → Some d ≡ digit_in base (get_or digits i 0) → new ≡ min (base * value + d) (2 ^ 32) → Counts base digits (i + 1) new
counts_more base i value d new digits c some within e n = record {
  total = base * c.total + d;
  same =
      sym (next_total base c.total (get_or digits i 0) d (drop (i + 1) digits) e)
      ∙ ap (number_from base c.total) (sym (cut digits i within))
      ∙ c.same;
  told = n ∙ saturated base value c.total d some c.told;
}

-- ---- one to three digits

test_small : (c : Bool) (d : ℕ) → nat_lt d 10 ≡ c → IfSome (cond c (Some d) None) (λ n. n < 10)
test_small true d is = grind (arith, nat_tests)
test_small false d is = tt

below_small : (d : ℕ) → IfSome (below 10 d) (λ n. n < 10)
below_small d = test_small (nat_lt d 10) d refl

either_small : (c : Bool) (a b : Option ℕ) → IfSome a (λ n. n < 10) → IfSome b (λ n. n < 10) → IfSome (cond c a b) (λ n. n < 10)
either_small true a b h k = h
either_small false a b h k = k

digit_small : (b : ℕ) → IfSome (digit_in 10 b) (λ n. n < 10)
digit_small b =
    either_small (nat_le 48 b && nat_le b 57) _ _ (below_small (b - 48))
    (either_small (nat_le 97 b && nat_le b 102) _ _ (below_small (b - 87))
    (either_small (nat_le 65 b && nat_le b 70) _ None (below_small (b - 55)) tt))

for_digit : (o : Option ℕ) (f : ℕ → Option ℕ) (P : ℕ → Type 0) → IfSome o (λ n. n < 10) → ((d : ℕ) → d < 10 → IfSome (f d) P)
    → IfSome (elim o as (λ _. Option ℕ) [ None ↦ None | Some d ↦ f d ]) P
for_digit None f P h k = tt
for_digit (Some d) f P h k = k d h

for_first : (n b : ℕ) (later : List ℕ) (P : ℕ → Type 0) → ((d : ℕ) → d < 10 → IfSome (number_from 10 (10 * n + d) later) P) → IfSome (number_from 10 n (b ∷ later)) P
for_first n b later P h = for_digit (digit_in 10 b) (λ d. number_from 10 (10 * n + d) later) P (digit_small b) h

three_digits : (digits : List ℕ) → length digits ≤ 3 → IfSome (number_in 10 digits) (λ n. n < 1000)
three_digits [] h = tt
three_digits (a ∷ []) h = for_first 0 a [] (λ n. n < 1000) (λ d p. omega arith)
three_digits (a ∷ b ∷ []) h = for_first 0 a (b ∷ []) (λ n. n < 1000) (λ d p. for_first _ b [] (λ n. n < 1000) (λ e q. omega arith))
three_digits (a ∷ b ∷ c ∷ []) h =
    for_first 0 a (b ∷ c ∷ []) (λ n. n < 1000) (λ d p. for_first _ b (c ∷ []) (λ n. n < 1000) (λ e q. for_first _ c [] (λ n. n < 1000) (λ f r. omega arith)))
three_digits (a ∷ b ∷ c ∷ d ∷ digits) h = absurd (omega arith)

uncapped : (o : Option ℕ) (n : ℕ) → IfSome o (λ m. m < 1000) → Some n ≡ capped o → (n < 1000) × (Some n ≡ o)
uncapped None n h e = cc
uncapped (Some m) n h e = let told : n ≡ min m (2 ^ 32) = cc in let same : n ≡ m = omega arith in (omega arith, ap Some same)

-- the value of at most three digits stands below the limit
pub short_value : (digits : List ℕ) (n : ℕ) → length digits ≤ 3 → Some n ≡ capped (number_in 10 digits) → (n < 1000) × (Some n ≡ number_in 10 digits)
short_value digits n h e = uncapped (number_in 10 digits) n (three_digits digits h) e
