-- The value of digits, read one by one.
use Rattle.std.proofs.Common.{◌≡◌, ℕ, ◌+◌, ◌*◌, ◌^◌, ◌<◌, List, ◌∷◌, length, drop, get_or, Option, Some, None, refl, sym, ap, ◌∙◌, arith, add-one, drop-cons}
use Rattle.std.proofs.Math.Nat.{one-le-pow, pow-le-pow_right}
use Rattle.std.proofs.lemmas.Grind.{pow_more}
use Rattle.pld_words.specs.Words.{digit_of, number_from}

-- So many digits were read, and this is their value.
pub record Counts (digits : List ℕ) (i value : ℕ) : Type 0 where
  pub same : number_from value (drop i digits) ≡ number_from 0 digits
  pub small : value < 10 ^ i

pub counts_none : (digits : List ℕ) → Counts digits 0 0
counts_none digits = record { same = refl; small = omega (arith, one-le-pow 0 10 (omega arith)) }

pub counts_small : (digits : List ℕ) (i value : ℕ) → Counts digits i value → i < 9 → value < 100000000
counts_small digits i value c h = omega (arith, c.small, pow-le-pow_right {n = 10} (omega arith) {i = i} {j = 8} (omega arith))

next_value : (n b d : ℕ) (later : List ℕ) → Some d ≡ digit_of b → number_from n (b ∷ later) ≡ number_from (10 * n + d) later
next_value n b d later e = ap (λ o. elim o as (λ _. Option ℕ) [ None ↦ None | Some k ↦ number_from (10 * n + k) later ]) (sym e)

cut : (digits : List ℕ) (i : ℕ) → i < length digits → drop i digits ≡ get_or digits i 0 ∷ drop (i + 1) digits
cut digits i h = rw (add-one, drop-cons digits i 0 h)

pub counts_more : (digits : List ℕ) (i value d : ℕ) → Counts digits i value → i < length digits
    → Some d ≡ digit_of (get_or digits i 0) → d < 10 → Counts digits (i + 1) (10 * value + d)
counts_more digits i value d c within e few = record {
  same =
      sym (next_value value (get_or digits i 0) d (drop (i + 1) digits) e)
      ∙ ap (number_from value) (sym (cut digits i within))
      ∙ c.same;
  small = omega (arith, c.small, pow_more 10 i);
}
