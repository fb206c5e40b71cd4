use Rattle.std.proofs.Common.{◌+◌, ◌*◌, length}
use Rattle.pld_grammar.specs.Symbols.{symbols}
use Rattle.pld_parse.proofs.Blocks.{BlockReached, IfReached}
use Rattle.pld_parse.proofs.statement.+block.Given as goal

abbrev pub decreases-block : goal.decreases-block
decreases-block l = 8 * length (symbols l.tokens.now) + 3

abbrev pub decreases-braced : goal.decreases-braced
decreases-braced l = 8 * length (symbols l.tokens.now) + 4

abbrev pub decreases-choice : goal.decreases-choice
decreases-choice l = 8 * length (symbols l.tokens.now) + 5

abbrev pub decreases-counted : goal.decreases-counted
decreases-counted l = 8 * length (symbols l.tokens.now) + 5

abbrev pub decreases-repeat : goal.decreases-repeat
decreases-repeat l = 8 * length (symbols l.tokens.now) + 5

abbrev pub decreases-single : goal.decreases-single
decreases-single l = 8 * length (symbols l.tokens.now) + 1

abbrev pub decreases-statement : goal.decreases-statement
decreases-statement l = 8 * length (symbols l.tokens.now) + 2

abbrev pub invariant-block-loop-end : goal.invariant-block-loop-end
invariant-block-loop-end l = BlockReached (symbols l.fn.tokens) l.body (symbols l.rest)

abbrev pub decreases-block-loop-end : goal.decreases-block-loop-end
decreases-block-loop-end l = length (symbols l.rest)

abbrev pub invariant-choice-loop-arms : goal.invariant-choice-loop-arms
invariant-choice-loop-arms l = IfReached (symbols l.fn.tokens) l.arms (symbols l.rest)

abbrev pub decreases-choice-loop-arms : goal.decreases-choice-loop-arms
decreases-choice-loop-arms l = length (symbols l.rest)
