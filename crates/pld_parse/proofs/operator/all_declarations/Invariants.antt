use Rattle.std.proofs.Common.{length}
use Rattle.pld_grammar.specs.Symbols.{symbols}
use Rattle.pld_parse.proofs.Operators.{DeclarationsReached}
use Rattle.pld_parse.proofs.operator.all_declarations.Given as goal

abbrev pub invariant-loop-ty : goal.invariant-loop-ty
invariant-loop-ty l = DeclarationsReached (symbols l.fn.tokens) l.made (symbols l.rest)

abbrev pub decreases-loop-ty : goal.decreases-loop-ty
decreases-loop-ty l = length (symbols l.rest)
