use Rattle.std.proofs.Common.{◌+◌, ◌*◌, length}
use Rattle.pld_grammar.specs.Symbols.{symbols}
use Rattle.pld_parse.proofs.Expressions.{Reached}
use Rattle.pld_parse.proofs.expression.+expression.Given as goal

abbrev pub decreases-closed : goal.decreases-closed
decreases-closed l = 32 * length (symbols l.tokens.now) + 13

abbrev pub decreases-group : goal.decreases-group
decreases-group l = 32 * length (symbols l.tokens.now) + 14

abbrev pub decreases-levels : goal.decreases-levels
decreases-levels l = 32 * length (symbols l.tokens.now) + 2 + l.count

abbrev pub decreases-named : goal.decreases-named
decreases-named l = 32 * length (symbols l.tokens.now) + 14

abbrev pub decreases-prefixed : goal.decreases-prefixed
decreases-prefixed l = 32 * length (symbols l.tokens.now) + 1

abbrev pub decreases-primary : goal.decreases-primary
decreases-primary l = 32 * length (symbols l.tokens.now)

abbrev pub invariant-levels-loop-operator : goal.invariant-levels-loop-operator
invariant-levels-loop-operator l = Reached l.level (symbols l.fn.tokens) l.value (symbols l.rest)

abbrev pub decreases-levels-loop-operator : goal.decreases-levels-loop-operator
decreases-levels-loop-operator l = length (symbols l.rest)
