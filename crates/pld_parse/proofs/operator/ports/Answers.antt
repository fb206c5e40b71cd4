use Rattle.std.proofs.lemmas.Result.{err_from_is_err_and}
use Rattle.pld_grammar.specs.Symbols.{symbols}
use Rattle.pld_parse.proofs.Operators.{no_ports_read, first_wrong, first_reached, next_wrong, next_reached, ports_unended, ports_read}
use Rattle.pld_parse.proofs.operator.ports.Goals as goal

pub returns-in-Some : goal.returns-in-Some
returns-in-Some c = no_ports_read (symbols c.args.tokens.now) (symbols c.in-Some.rest.now) c.new-ports.result c.new-ports.ensures c.in-Some.ensures

pub returns-in_err-rest : goal.returns-in_err-rest
returns-in_err-rest c =
    let p = err_from_is_err_and c.from_residual.result c.from_residual.ensures.1 in
    rw (p.1, p.2) (first_wrong (symbols c.args.tokens.now) c.in_err-rest.field-0.0 c.in_default.ensures c.in_err-rest.ensures)

pub loop-more-init : goal.loop-more-init
loop-more-init c = first_reached (symbols c.args.tokens.now) (symbols c.in_ok-rest.rest.now) c.new-ports.result c.port.new.ports c.new-ports.ensures c.in_default.ensures c.in_ok-rest.ensures

pub returns-in_err-rest-2 : goal.returns-in_err-rest-2
returns-in_err-rest-2 c =
    let p = err_from_is_err_and c.from_residual-in_err-rest-2.result c.from_residual-in_err-rest-2.ensures.1 in
    rw (p.1, p.2) (next_wrong (symbols c.args.tokens.now) (symbols c.loop-more.rest.now) (symbols c.in-Some-behind.more.now) c.loop-more.ports c.in_err-rest-2.field-0.0 c.loop-more.invariant c.in-Some-behind.ensures c.in_err-rest-2.ensures)

pub loop-more-preserved : goal.loop-more-preserved
loop-more-preserved c = next_reached (symbols c.args.tokens.now) (symbols c.loop-more.rest.now) (symbols c.in-Some-behind.more.now) (symbols c.in_ok-rest-2.rest.now) c.loop-more.ports c.port-in-Some-behind.new.ports c.loop-more.invariant c.in-Some-behind.ensures c.in_ok-rest-2.ensures

pub returns-in_err-rest-3 : goal.returns-in_err-rest-3
returns-in_err-rest-3 c =
    let p = err_from_is_err_and c.from_residual-in_err-rest-3.result c.from_residual-in_err-rest-3.ensures.1 in
    rw (p.1, p.2) (ports_unended (symbols c.args.tokens.now) (symbols c.loop-more.rest.now) c.loop-more.ports c.in_err-rest-3.field-0.0 c.loop-more.invariant c.in_default-behind.ensures c.in_err-rest-3.ensures)

pub returns : goal.returns
returns c = ports_read (symbols c.args.tokens.now) (symbols c.loop-more.rest.now) (symbols c.in_ok-rest-3.rest.now) c.loop-more.ports c.loop-more.invariant c.in_ok-rest-3.ensures
