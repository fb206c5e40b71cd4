-- What an operator's text is read as.
use Rattle.std.specs.Prelude.{◌≡◌, ℕ, ◌≤◌, List, Option, Some, None, Ok, Err, refl}
use Rattle.std.proofs.Common.{arith}
use Rattle.pld_base.specs.declared.event.Place.{Place}
use Rattle.pld_base.specs.declared.fault.FaultKind.{FaultKind}
use Rattle.pld_base.specs.declared.fault.SourceFault.{SourceFault}
use Rattle.pld_ast.specs.declared.tree.Operator.{Operator}
use Rattle.pld_lex.specs.declared.token.Token.{Token}
use Rattle.pld_lex.specs.Lexed.{Found, lexed, place_after, first_place, fault_at}
use Rattle.pld_grammar.specs.Symbols.{Symbol, symbols}
use Rattle.pld_grammar.specs.Fault.{Kind, Syntactic, Nesting}
use Rattle.pld_grammar.specs.Machine.{Verdict, Fine, Wrong, TooDeep, verdict, start}
use Rattle.pld_grammar.specs.Verdicts.{Says}
use Rattle.pld_grammar.proofs.Faults.{verdict_says}
use Rattle.pld_check.specs.Faults.{check_fault}
use Rattle.pld_parse.specs.Faults.{place_of, fault_kind}

-- a fault with its place, or an operator
pub data Reading : Type 0 where
  Faulty : SourceFault → Reading
  Reads : Operator → Reading

-- the place behind a text
abbrev pub behind : List ℕ → Place
behind text = place_after first_place text

-- the fault of tokens at the one from which on so many are left
abbrev pub syntax_fault : List Token → Place → Kind → ℕ → SourceFault
syntax_fault tokens past kind left = fault_at (fault_kind kind) (place_of tokens past left)

-- an operator of the grammar, with the first of its wrong names or limits
abbrev pub named : Operator → Option SourceFault → Reading
named op None = Reads op
named op (Some fault) = Faulty fault

-- tokens, by the verdict on them: a text of the grammar has one operator
abbrev pub parsed : (tokens : List Token) (past : Place) (v : Verdict) → Says 32 (symbols tokens) v → Reading
parsed tokens past Fine said = named said.0.0 (check_fault said.0.0)
parsed tokens past (Wrong left) said = Faulty (syntax_fault tokens past Syntactic left)
parsed tokens past (TooDeep left) said = Faulty (syntax_fault tokens past Nesting left)

-- the verdict on tokens, and that it says what it says
abbrev pub verdict_on : List Token → Verdict
verdict_on tokens = verdict 32 (symbols tokens) 0 start

abbrev pub said_on : (tokens : List Token) → Says 32 (symbols tokens) (verdict_on tokens)
said_on tokens = verdict_says 32 (symbols tokens) (let some : 1 ≤ 32 = omega arith in some)

abbrev pub read_tokens : Place → Found → Reading
read_tokens past (Ok tokens) = parsed tokens past (verdict_on tokens) (said_on tokens)
read_tokens past (Err fault) = Faulty fault

-- a text: its tokens, then their syntax, then its names and limits
unfoldable pub reading : List ℕ → Reading
reading text = read_tokens (behind text) (lexed text)
