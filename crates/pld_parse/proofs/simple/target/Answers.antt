use Rattle.pld_grammar.specs.Symbols.{symbols}
use Rattle.pld_parse.proofs.Simples.{a_scalar, a_cell}
use Rattle.pld_parse.proofs.simple.target.Goals as goal

pub returns-in_default : goal.returns-in_default
returns-in_default c = a_scalar c.args.name (symbols c.args.tokens.now) c.in_default.ensures

pub returns : goal.returns
returns c = a_cell c.args.name (symbols c.args.tokens.now) (symbols c.in-Some.inner.now) (symbols c.in_ok-index.rest.now) c.in_ok-index.index c.in-Some.ensures c.in_ok-index.ensures
