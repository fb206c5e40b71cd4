use Rattle.std.proofs.Common.{◌≡◌, drop, min, ℕ, List}
use Rattle.std.specs.Str.Parse.{digits_value_after}
use Rattle.rv_asm.proofs.numbers.value_of.Given as goal

-- the number so far, and what is kept of it
pub record SoFar (radix value : ℕ) (left all : List ℕ) : Type 0 where
  pub total : ℕ
  pub kept : value ≡ min total 1099511627776
  pub rest : digits_value_after radix total left ≡ digits_value_after radix 0 all

abbrev pub invariant-loop-b : goal.invariant-loop-b
invariant-loop-b l = SoFar l.radix l.value (drop l.b-index l.digits) l.digits
