-- Numerals stay below 16^10.
use Rattle.std.proofs.Common.{◌≡◌, ℕ, zero, suc, ◌+◌, ◌<◌, ◌≤◌, ◌*◌, ◌^◌, Bool, true, List, [], ◌∷◌, length, min, sym, ap, ◌∙◌, arith, Some}
use Rattle.std.specs.Prelude.{◌&&◌, nat_le}
use Rattle.std.specs.List.{list_all}
use Rattle.std.specs.Char.{is_digit, digit_value}
use Rattle.std.specs.Str.Parse.{digits_value, digits_value_after}
use Rattle.std.proofs.lemmas.Bool.{and_parts, ltb-true, leb-true}
use Rattle.std.proofs.lemmas.Bool.Decides.{nat_tests}
use Rattle.std.proofs.Math.Nat.{mul-le-mul_left, mul-le-mul_right, pow-succ', pow-le-pow_right, mul_assoc}
use Rattle.rv_asm.specs.Numbers.{is_numeral, numeral_in}

digits : ℕ → List ℕ → Bool
digits radix word = list_all (λ b. is_digit b radix) word

-- digits behind a number make it at most so much larger
behind : (radix n : ℕ) (ds : List ℕ) → radix ≤ 16 → list_all (λ b. is_digit b radix) ds ≡ true → digits_value_after radix n ds < (n + 1) * 16 ^ length ds
behind radix n [] h e = omega arith
behind radix n (d ∷ ds) h e =
    let p = and_parts (is_digit d radix) (list_all (λ b. is_digit b radix) ds) e in
    let v : digit_value d < radix = ltb-true (digit_value d) radix p.0 in
    let i = behind radix (n * radix + digit_value d) ds h p.1 in
    let m : n * radix ≤ n * 16 = mul-le-mul_left n h in
    let k : n * radix + digit_value d + 1 ≤ (n + 1) * 16 = omega (arith, m, v, h) in
    let q : (n * radix + digit_value d + 1) * 16 ^ length ds ≤ (n + 1) * 16 * 16 ^ length ds = mul-le-mul_right (16 ^ length ds) k in
    let r : (n + 1) * 16 ^ suc (length ds) ≡ (n + 1) * 16 * 16 ^ length ds = ap (λ t. (n + 1) * t) (pow-succ' 16 (length ds)) ∙ sym (mul_assoc (n + 1) 16 (16 ^ length ds)) in
    omega (arith, i, q, r)

-- a numeral of at most 10 digits is below 16^10
pub numeral_small : (radix most : ℕ) (word : List ℕ) → radix ≤ 16 → most ≤ 10 → is_numeral radix most word ≡ true → digits_value radix word < 1099511627776
numeral_small radix most word h few e =
    let p = and_parts (nat_le 1 (length word) && nat_le (length word) most) (list_all (λ b. is_digit b radix) word) e in
    let l = and_parts (nat_le 1 (length word)) (nat_le (length word) most) p.0 in
    let short : length word ≤ 10 = omega (arith, leb-true (length word) most l.1, few) in
    let b = behind radix 0 word h p.1 in
    let t : 16 ^ length word ≤ 16 ^ 10 = pow-le-pow_right (omega arith) short in
    omega (arith, b, t)

pub kept : (v : ℕ) → v < 1099511627776 → min v 1099511627776 ≡ v
kept v h = grind (arith, nat_tests)

pub saturated : (total radix d : ℕ) → 1 ≤ radix → min (min total 1099511627776 * radix + d) 1099511627776 ≡ min (total * radix + d) 1099511627776
saturated total zero d h = absurd (omega (arith, h))
saturated total (suc b) d h = grind arith

-- what is kept of a numeral's value is its value
pub numeral_told : (radix most : ℕ) (word : List ℕ) (v : ℕ) → radix ≤ 16 → most ≤ 10 → is_numeral radix most word ≡ true → v ≡ min (digits_value radix word) 1099511627776 → Some v ≡ numeral_in radix most word
numeral_told radix most word v h few e k = rw e (ap Some (k ∙ kept (digits_value radix word) (numeral_small radix most word h few e)))
