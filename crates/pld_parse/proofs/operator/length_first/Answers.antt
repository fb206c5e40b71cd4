use Rattle.pld_grammar.specs.Symbols.{symbols}
use Rattle.pld_parse.proofs.Operators.{no_length_here, a_length}
use Rattle.pld_parse.proofs.operator.length_first.Goals as goal

pub returns-in_default : goal.returns-in_default
returns-in_default c = no_length_here c.args.tokens.now c.in_default.ensures

pub returns-else-n-eq0 : goal.returns-else-n-eq0
returns-else-n-eq0 c = a_length (symbols c.args.tokens.now) (symbols c.in-Some.rest.now) c.in-Some.n c.in-Some.ensures c.if-n-eq0.false
