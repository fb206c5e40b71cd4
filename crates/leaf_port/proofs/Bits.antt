-- Sets of numbers below 64, as the code keeps them.
use Rattle.std.proofs.Common.{◌≡◌, ℕ, ◌*◌, ◌/◌, ◌%◌, ◌^◌, ◌<◌, true, false, ap, bit_and, w64}
use Rattle.std.specs.Prelude.{◌==◌}
use Rattle.std.specs.Int.{bit_not, trailing_zeros}
use Rattle.std.specs.Int.RustNames.{bit_or}
use Rattle.std.proofs.lemmas.Nat.Bits.{shr_and_one, bit_at_set_same, bit_at_set_other, bit_at_clear_same, bit_at_clear_other, bit_at-trailing_zeros}
use Rattle.leaf_port.specs.Masks.{has, IsSetTo, IsLowest}

-- a digit is 1
is_one : (a b : ℕ) → a ≡ b → (a == 1) ≡ (b == 1)
is_one a b e = ap (λ (d : ℕ). d == 1) e

pub has_told : (n i : ℕ) → (bit_and (n / 2 ^ i) 1 == 1) ≡ has n i
has_told n i = is_one _ _ (shr_and_one n i)

pub put_in : (n i : ℕ) → i < 64 → IsSetTo n i true (bit_or n (1 * 2 ^ i % 2 ^ 64))
put_in n i l = record { here = is_one _ 1 (bit_at_set_same w64 n i l); others = λ k m ne. is_one _ _ (bit_at_set_other w64 n i l k ne) }

pub taken_out : (n i : ℕ) → i < 64 → IsSetTo n i false (bit_and n (bit_not w64 (1 * 2 ^ i % 2 ^ 64)))
taken_out n i l = record { here = is_one _ 0 (bit_at_clear_same w64 n i l); others = λ k m ne. is_one _ _ (bit_at_clear_other w64 n i l k m ne) }

pub lowest_bit : (n : ℕ) → 0 < n → n < 2 ^ 64 → IsLowest n (trailing_zeros w64 n)
lowest_bit n some below = record {
  within = (bit_at-trailing_zeros w64 n some below).0;
  here = is_one _ 1 (bit_at-trailing_zeros w64 n some below).1;
  before = λ k l. is_one _ 0 ((bit_at-trailing_zeros w64 n some below).2 k l);
}
