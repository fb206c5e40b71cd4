use Rattle.std.proofs.Common.{length}
use Rattle.pld_grammar.specs.Symbols.{symbols}
use Rattle.pld_parse.proofs.Operators.{PortsReached}
use Rattle.pld_parse.proofs.operator.ports.Given as goal

abbrev pub invariant-loop-more : goal.invariant-loop-more
invariant-loop-more l = PortsReached (symbols l.fn.tokens) l.ports (symbols l.rest)

abbrev pub decreases-loop-more : goal.decreases-loop-more
decreases-loop-more l = length (symbols l.rest)
