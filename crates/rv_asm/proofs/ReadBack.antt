-- Printed operands are read back.
use Rattle.std.proofs.Common.{◌≡◌, ℕ, ℤ, suc, ◌+◌, ◌-◌, ◌<◌, ◌≤◌, ◌^◌, Bool, true, false, cond, List, [], ◌∷◌, ◌++◌, length, take, drop, get_or, refl, sym, ap, ◌∙◌, arith, subst, Some, None, ◌⊎◌, inl, inr}
use Rattle.std.specs.Prelude.{◌==◌, ◌&&◌, nat_le, decimal, pos, negsuc, option_map}
use Rattle.std.specs.List.{list_all, before_first, after_first, position_or_len}
use Rattle.std.specs.Fmt.{signed_decimal}
use Rattle.std.specs.Char.{digit_value, is_digit}
use Rattle.std.specs.Str.Parse.{AllDigits}
use Rattle.std.proofs.lemmas.Bool.{lt-ltb, le-leb, cases_eq, eq-eqb}
use Rattle.std.proofs.lemmas.Bool.Decides.{nat_tests}
use Rattle.std.proofs.lemmas.Fmt.{decimal_is_IsNumeral, decimal_nonempty, length-decimal-le, first_decimal, decimal_digit}
use Rattle.std.proofs.lemmas.Str.Parse.{digit_from_value}
use Rattle.std.proofs.lemmas.List.{length-append}
use Rattle.std.proofs.Math.Numerals.{add-one}
use Rattle.std.proofs.Common.{append_assoc}
use lib.Signed.{mag}
use Rattle.pld_base.specs.Names.{name_in, is_letter}
use Rattle.rv_text.specs.Texts.{register, address}
use Rattle.rv_asm.specs.Numbers.{is_numeral, numeral_in, number_in, has_leading_zero, register_in, ended, of_both, register_before, address_in, target_in}
use Rattle.rv_asm.specs.declared.written.Target.TheVariants.{Offset}

-- ---- numerals

all_digits : (ds : List ℕ) → AllDigits 10 ds → list_all (λ b. is_digit b 10) ds ≡ true
all_digits [] h = refl
all_digits (d ∷ ds) h = rw (lt-ltb (digit_value d) 10 h.0) (all_digits ds h.1)

decimal_numeral : (most n : ℕ) → 0 < most → n < 10 ^ most → n < 2 ^ 64 → is_numeral 10 most (decimal n) ≡ true
decimal_numeral most n some small h =
    let d = decimal_is_IsNumeral n h in
    let long : 1 ≤ length (decimal n) = decimal_nonempty n h in
    rw (le-leb 1 (length (decimal n)) long) (rw (le-leb (length (decimal n)) most (length-decimal-le most n some small h)) (all_digits (decimal n) d.0.1))

numeral_back : (most n : ℕ) → 0 < most → n < 10 ^ most → n < 2 ^ 64 → numeral_in 10 most (decimal n) ≡ Some n
numeral_back most n some small h = rw (decimal_numeral most n some small h) (ap Some (decimal_is_IsNumeral n h).1)

-- ---- registers

no_zero : (n : ℕ) → n ≤ 31 → has_leading_zero (decimal n) ≡ false
no_zero n h = by (cases_eq n 0)
  where
    by : (n ≡ 0) ⊎ (n ≡ 0 → ⊥) → has_leading_zero (decimal n) ≡ false
    by (inl e) = subst (λ k. has_leading_zero (decimal k) ≡ false) (sym e) (ap has_leading_zero (decimal_digit 0 (omega arith)))
    by (inr e) =
        let some : 0 < n = omega (arith, e) in
        let first : 48 < get_or (decimal n) 0 0 = first_decimal n some (omega (arith, h)) in
        grind (arith, nat_tests)

pub register_back : (n : ℕ) → n ≤ 31 → register_in (register n) ≡ Some n
register_back n h =
    rw (decimal_numeral 2 n (omega arith) (omega (arith, h)) (omega (arith, h)))
    (rw (no_zero n h) (rw (decimal_is_IsNumeral n (omega (arith, h))).1 (rw (le-leb n 31 h) refl)))

-- ---- numbers

-- a text that begins with a digit is no `-`, and no `0x`
first_digit : (ds : List ℕ) → AllDigits 10 ds → 0 < length ds → number_in ds ≡ option_map pos (numeral_in 10 10 ds)
first_digit [] h some = absurd (omega arith)
first_digit (d ∷ []) h some =
    let r = digit_from_value d h.0 in
    let e : (d == 45) ≡ false = grind (arith, nat_tests) in
    rw e (both_ways (d == 48))
  where
    both_ways : (t : Bool) → cond (t && false) (option_map pos (numeral_in 16 8 [])) (option_map pos (numeral_in 10 10 (d ∷ []))) ≡ option_map pos (numeral_in 10 10 (d ∷ []))
    both_ways true = refl
    both_ways false = refl
first_digit (d ∷ c ∷ ds) h some =
    let r = digit_from_value d h.0 in
    let q = digit_from_value c h.1.0 in
    let e : (d == 45) ≡ false = grind (arith, nat_tests) in
    let x : (c == 120) ≡ false = grind (arith, nat_tests) in
    rw e (rw x (both_ways (d == 48)))
  where
    both_ways : (t : Bool) → cond (t && false) (option_map pos (numeral_in 16 8 ds)) (option_map pos (numeral_in 10 10 (d ∷ c ∷ ds))) ≡ option_map pos (numeral_in 10 10 (d ∷ c ∷ ds))
    both_ways true = refl
    both_ways false = refl

pub number_back : (n : ℕ) → n < 10 ^ 10 → number_in (decimal n) ≡ Some (pos n)
number_back n h =
    let d = decimal_is_IsNumeral n (omega (arith, h)) in
    first_digit (decimal n) d.0.1 d.0.0 ∙ ap (option_map pos) (numeral_back 10 n (omega arith) h (omega (arith, h)))

pub signed_back : (z : ℤ) → mag z + 1 < 10 ^ 10 → number_in (signed_decimal z) ≡ Some z
signed_back (pos n) h = number_back n (omega (arith, h))
signed_back (negsuc n) h = rw (numeral_back 10 (suc n) (omega arith) (omega (arith, h)) (omega (arith, h))) refl

-- ---- targets

no_name : (b : ℕ) (word : List ℕ) → is_letter b ≡ false → name_in (b ∷ word) ≡ None
no_name b word e = rw e (by (nat_le (length (b ∷ word)) 32))
  where
    by : (t : Bool) → cond (t && false) (Some (b ∷ word)) None ≡ None
    by true = refl
    by false = refl

digits_no_name : (ds : List ℕ) → AllDigits 10 ds → 0 < length ds → name_in ds ≡ None
digits_no_name [] h some = absurd (omega arith)
digits_no_name (d ∷ ds) h some = let r = digit_from_value d h.0 in no_name d ds (grind (arith, nat_tests))

signed_no_name : (z : ℤ) → mag z < 2 ^ 63 → name_in (signed_decimal z) ≡ None
signed_no_name (pos n) h = let d = decimal_is_IsNumeral n (omega (arith, h)) in digits_no_name (decimal n) d.0.1 d.0.0
signed_no_name (negsuc n) h = no_name 45 (decimal (suc n)) refl

pub target_back : (z : ℤ) → mag z + 1 < 10 ^ 10 → target_in (signed_decimal z) ≡ Some (Offset z)
target_back z h = rw (signed_no_name z (omega (arith, h))) (ap (option_map Offset) (signed_back z h))

-- ---- addresses

abbrev opens : ℕ → Bool
opens b = b == 40

-- no opening bracket stands in these bytes
abbrev HasNoBracket : List ℕ → Type 0
HasNoBracket [] = Unit {0}
HasNoBracket (b ∷ bytes) = (opens b ≡ false) × HasNoBracket bytes

digits_no_bracket : (ds : List ℕ) → AllDigits 10 ds → HasNoBracket ds
digits_no_bracket [] h = tt
digits_no_bracket (d ∷ ds) h = let r = digit_from_value d h.0 in (grind (arith, nat_tests), digits_no_bracket ds h.1)

signed_no_bracket : (z : ℤ) → mag z < 2 ^ 63 → HasNoBracket (signed_decimal z)
signed_no_bracket (pos n) h = digits_no_bracket (decimal n) (decimal_is_IsNumeral n (omega (arith, h))).0.1
signed_no_bracket (negsuc n) h = (refl, digits_no_bracket (decimal (suc n)) (decimal_is_IsNumeral (suc n) (omega (arith, h))).0.1)

bracket_at : (xs ys : List ℕ) → HasNoBracket xs → position_or_len opens (xs ++ 40 ∷ ys) ≡ length xs
bracket_at [] ys h = refl
bracket_at (x ∷ xs) ys h = rw h.0 (rw (bracket_at xs ys h.1) (omega arith))

take_front : (xs ys : List ℕ) → take (length xs) (xs ++ ys) ≡ xs
take_front [] ys = refl
take_front (x ∷ xs) ys = ap (λ l. x ∷ l) (take_front xs ys)

drop_front : (xs ys : List ℕ) (y : ℕ) → drop (suc (length xs)) (xs ++ y ∷ ys) ≡ ys
drop_front [] ys y = refl
drop_front (x ∷ xs) ys y = drop_front xs ys y

get_end : (xs : List ℕ) (y : ℕ) → get_or (xs ++ y ∷ []) (length xs) 0 ≡ y
get_end [] y = refl
get_end (x ∷ xs) y = get_end xs y

pub ended_back : (b : ℕ) (xs : List ℕ) → ended b (xs ++ b ∷ []) ≡ Some xs
ended_back b xs = by (length (xs ++ b ∷ [])) (length-append xs (b ∷ []))
  where
    by : (n : ℕ) → n ≡ length xs + 1 → cond (nat_le 1 n && (get_or (xs ++ b ∷ []) (n - 1) 0 == b)) (Some (take (n - 1) (xs ++ b ∷ []))) None ≡ Some xs
    by n e =
        let less : n - 1 ≡ length xs = omega (arith, e) in
        let some : nat_le 1 n ≡ true = le-leb 1 n (omega (arith, e)) in
        let last : (get_or (xs ++ b ∷ []) (length xs) 0 == b) ≡ true = eq-eqb _ _ (get_end xs b) in
        rw some (rw less (rw last (ap Some (take_front xs (b ∷ [])))))

address_grouped : (rs1 : ℕ) (imm : ℤ) → address rs1 imm ≡ signed_decimal imm ++ 40 ∷ (register rs1 ++ 41 ∷ [])
address_grouped rs1 imm = simp append_assoc

pub address_back : (rs1 : ℕ) (imm : ℤ) → rs1 ≤ 31 → mag imm + 1 < 10 ^ 10 → address_in (address rs1 imm) ≡ Some (imm, rs1)
address_back rs1 imm h k =
    let word = signed_decimal imm ++ 40 ∷ (register rs1 ++ 41 ∷ []) in
    let at : position_or_len opens word ≡ length (signed_decimal imm) = bracket_at (signed_decimal imm) (register rs1 ++ 41 ∷ []) (signed_no_bracket imm (omega (arith, k))) in
    let front : before_first opens word ≡ signed_decimal imm = ap (λ n. take n word) at ∙ take_front (signed_decimal imm) (40 ∷ (register rs1 ++ 41 ∷ [])) in
    let back : after_first opens word ≡ register rs1 ++ 41 ∷ [] = ap (λ n. drop (n + 1) word) at ∙ ap (λ n. drop n word) (add-one (length (signed_decimal imm))) ∙ drop_front (signed_decimal imm) (register rs1 ++ 41 ∷ []) 40 in
    let one : number_in (before_first opens word) ≡ Some imm = ap number_in front ∙ signed_back imm k in
    let other : register_before 41 (ended 41 (after_first opens word)) ≡ Some rs1 = ap (λ l. register_before 41 (ended 41 l)) back ∙ ap (register_before 41) (ended_back 41 (register rs1)) ∙ register_back rs1 h in
    ap address_in (address_grouped rs1 imm) ∙ ap (λ o. of_both (λ z r. (z, r)) o (register_before 41 (ended 41 (after_first opens word)))) one ∙ ap (of_both (λ z r. (z, r)) (Some imm)) other
