use Rattle.std.proofs.Common.{◌≡◌, drop, min, ℕ, List}
use Rattle.pld_lex.specs.Words.{value_behind}
use Rattle.pld_lex.proofs.words.value_of.Given as goal

-- the number so far, and what is kept of it
pub record SoFar (base value : ℕ) (left all : List ℕ) : Type 0 where
  pub total : ℕ
  pub kept : value ≡ min total 4294967296
  pub rest : value_behind base total left ≡ value_behind base 0 all

abbrev pub invariant-loop-b : goal.invariant-loop-b
invariant-loop-b l = SoFar l.base l.value (drop l.b-index l.digits) l.digits
