-- Lengths and numbers, as loops find them.
use Rattle.std.proofs.Common.{◌≡◌, ℕ, zero, suc, ◌+◌, ◌*◌, ◌≤◌, Bool, Option, Some, None, min, refl, ap, arith}
use Rattle.std.proofs.lemmas.Bool.Decides.{nat_tests}
use Rattle.pld_lex.specs.Lexed.{one_more}
use Rattle.pld_lex.specs.Words.{sized}

-- n bytes further
abbrev pub further : ℕ → Option ℕ → Option ℕ
further n (Some m) = Some (n + m)
further n None = None

pub further_none : (o : Option ℕ) → further 0 o ≡ o
further_none (Some m) = ap Some (omega arith)
further_none None = refl

pub further_one : (n : ℕ) (o : Option ℕ) → further (n + 1) o ≡ further n (one_more o)
further_one n (Some m) = ap Some (omega arith)
further_one n None = refl

pub saturated : (total base d : ℕ) → 1 ≤ base → min (min total 4294967296 * base + d) 4294967296 ≡ min (total * base + d) 4294967296
saturated total zero d h = absurd (omega (arith, h))
saturated total (suc b) d h = grind arith

pub sized_at : (s : Bool) (v : ℕ) → sized s (min v 4294967296) ≡ sized s v
sized_at s v = grind (arith, nat_tests)
