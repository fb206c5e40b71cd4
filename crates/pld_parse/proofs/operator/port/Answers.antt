use Rattle.pld_grammar.specs.Symbols.{symbols}
use Rattle.pld_parse.proofs.Operators.{port_unnamed, port_read}
use Rattle.pld_parse.proofs.operator.port.Goals as goal

pub returns-in_default-name_first : goal.returns-in_default-name_first
returns-in_default-name_first c = port_unnamed c.in-Some.side (symbols c.args.tokens.now) (symbols c.in-Some.rest.now) _ c.in-Some.ensures c.in_default-name_first.ensures

pub returns : goal.returns
returns c = port_read c.in-Some.side c.in-Some-name_first.name c.args.ports.now c.push.new.self (symbols c.args.tokens.now) (symbols c.in-Some.rest.now) (symbols c.in-Some-name_first.rest.now) c.in-Some.ensures c.in-Some-name_first.ensures c.in_ok-push.ensures.ok
