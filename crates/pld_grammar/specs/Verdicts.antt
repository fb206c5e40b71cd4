-- What a verdict says of a text.
use Rattle.std.specs.Prelude.{ℕ, List}
use Rattle.pld_ast.specs.declared.tree.Operator.{Operator}
use Rattle.pld_grammar.specs.Symbols.{Symbol}
use Rattle.pld_grammar.specs.Grammar.{Syntax}
use Rattle.pld_grammar.specs.Fault.{IsNarrow, IsFault, Syntactic, Nesting}
use Rattle.pld_grammar.specs.Machine.{Verdict, Fine, Wrong, TooDeep}

abbrev pub Says : ℕ → List Symbol → Verdict → Type 0
Says limit ts Fine = ((op : Operator) × Syntax ts op) × IsNarrow limit 0 ts
Says limit ts (Wrong n) = IsFault limit ts Syntactic n
Says limit ts (TooDeep n) = IsFault limit ts Nesting n
