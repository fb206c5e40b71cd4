-- What is wrong with a list of tokens, and where.
use Rattle.std.specs.Prelude.{ℕ, zero, suc, ◌+◌, ◌-◌, ◌≡◌, List, [], ◌∷◌, length, Option, Some, None, slice_get, if◌then◌else◌}
use Rattle.pld_base.specs.declared.event.Place.{Place}
use Rattle.pld_base.specs.declared.fault.Limit.TheVariants as limit
use Rattle.pld_base.specs.declared.fault.FaultKind.{FaultKind}
use Rattle.pld_base.specs.declared.fault.FaultKind.TheVariants as fault
use Rattle.pld_base.specs.declared.fault.SourceFault.{SourceFault}
use Rattle.pld_base.specs.declared.memory.Refused.{Refused}
use Rattle.pld_base.specs.declared.memory.Refused.TheVariants as refused
use Rattle.pld_lex.specs.declared.token.Token.{Token}
use Rattle.pld_grammar.specs.Symbols.{Symbol, symbols}
use Rattle.pld_grammar.specs.Fault.{Kind, Syntactic, Nesting, IsFault, open_after}
use Rattle.pld_grammar.specs.Machine.{Verdict, Fine, Wrong, TooDeep, verdict, start, is_crowded}

-- how many tokens are left at the first that takes a bracket too many, where d are open
abbrev pub crowded_at : ℕ → ℕ → List Symbol → Option ℕ
crowded_at most d [] = None
crowded_at most d (t ∷ ts) = if is_crowded most d t then Some (suc (length ts)) else crowded_at most (open_after d t) ts

abbrev pub place_or : Place → Option Token → Place
place_or behind None = behind
place_or behind (Some t) = t.at

-- the place of the token from which on so many are left, and behind the text where none is
abbrev pub place_of : List Token → Place → ℕ → Place
place_of ts behind left = place_or behind (slice_get ts (length ts - left))

abbrev pub fault_kind : Kind → FaultKind
fault_kind Syntactic = fault.Syntax
fault_kind Nesting = fault.TooLarge limit.Nesting

-- f tells the one fault of the tokens: its kind and its place
pub record Tells (most : ℕ) (ts : List Token) (behind : Place) (f : SourceFault) : Type 0 where
  pub kind : Kind
  pub left : ℕ
  pub is : IsFault most (symbols ts) kind left
  pub kind_is : f.kind ≡ fault_kind kind
  pub line_is : f.line ≡ (place_of ts behind left).line
  pub column_is : f.column ≡ (place_of ts behind left).column

-- a refusal is the fault of the tokens, or want of memory
abbrev pub IsFaultOf : ℕ → List Token → Place → Refused SourceFault → Type 0
IsFaultOf most ts behind (refused.Fault f) = Tells most ts behind f
IsFaultOf most ts behind refused.NoMemory = Unit {0}

abbrev pub verdict_of : Kind → ℕ → Verdict
verdict_of Syntactic n = Wrong n
verdict_of Nesting n = TooDeep n

-- the same, by the verdict
pub record Judges (most : ℕ) (ts : List Token) (behind : Place) (f : SourceFault) : Type 0 where
  pub kind : Kind
  pub left : ℕ
  pub is : verdict most (symbols ts) 0 start ≡ verdict_of kind left
  pub kind_is : f.kind ≡ fault_kind kind
  pub line_is : f.line ≡ (place_of ts behind left).line
  pub column_is : f.column ≡ (place_of ts behind left).column

abbrev pub IsJudged : ℕ → List Token → Place → Refused SourceFault → Type 0
IsJudged most ts behind (refused.Fault f) = Judges most ts behind f
IsJudged most ts behind refused.NoMemory = Unit {0}

-- what the verdict is, where the tokens up to the first that takes a bracket too many are stuck so
abbrev pub told : Option ℕ → ℕ → Verdict
told None k = TooDeep k
told (Some zero) k = TooDeep k
told (Some (suc n)) k = Wrong (n + k)

abbrev pub plain : Option ℕ → Verdict
plain None = Fine
plain (Some n) = Wrong n
