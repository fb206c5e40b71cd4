use Rattle.pld_grammar.specs.Symbols.{symbols}
use Rattle.pld_parse.proofs.Simples.{is_read}
use Rattle.pld_parse.proofs.simple.read_statement.Goals as goal

pub returns : goal.returns
returns c = is_read c.args.target c.in-Some.port (symbols c.args.tokens.now) (symbols c.in_ok-rest-3.rest.now) (cc (c.in_ok-rest.ensures, c.in-Some.ensures, c.in_ok-rest-2.ensures, c.in_ok-rest-3.ensures))
