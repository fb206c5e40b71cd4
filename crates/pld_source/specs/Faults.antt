-- What a text is, in the words of its tokens, its grammar and its names.
use Rattle.std.specs.Prelude.{◌≡◌, ℕ, List, Some, None, Ok, Err}
use Rattle.pld_base.specs.declared.fault.SourceFault.{SourceFault}
use Rattle.pld_ast.specs.declared.tree.Operator.{Operator}
use Rattle.pld_lex.specs.declared.token.Token.{Token}
use Rattle.pld_lex.specs.Lexed.{lexed}
use Rattle.pld_grammar.specs.Symbols.{symbols}
use Rattle.pld_grammar.specs.Grammar.{Syntax}
use Rattle.pld_grammar.specs.Fault.{IsNarrow}
use Rattle.pld_check.specs.Faults.{check_fault}
use Rattle.pld_parse.specs.Faults.{Tells}
use Rattle.pld_source.specs.Reading.{behind}

-- the text is one of the grammar, of this operator, and never has more than 32 brackets open at once
pub record IsTextOf (text : List ℕ) (op : Operator) : Type 0 where
  pub tokens : List Token
  pub spelled : lexed text ≡ Ok tokens
  pub syntax : Syntax (symbols tokens) op
  pub narrow : IsNarrow 32 0 (symbols tokens)

-- and its names are right, and within the limits
pub record IsReadAs (text : List ℕ) (op : Operator) : Type 0 where
  pub is : IsTextOf text op
  pub named : check_fault op ≡ None

-- the one fault of a text: in its tokens; else in its syntax; else in its names and limits
pub data HasFault (text : List ℕ) (fault : SourceFault) : Type 0 where
  In_tokens : lexed text ≡ Err fault → HasFault text fault
  In_syntax : (tokens : List Token) → lexed text ≡ Ok tokens → Tells 32 tokens (behind text) fault → HasFault text fault
  In_names : (op : Operator) → IsTextOf text op → check_fault op ≡ Some fault → HasFault text fault
