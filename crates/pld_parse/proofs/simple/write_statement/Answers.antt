use Rattle.std.proofs.lemmas.Result.{err_from_is_err_and}
use Rattle.pld_grammar.specs.Symbols.{symbols}
use Rattle.std.proofs.Common.{◌≡◌}
use Rattle.pld_parse.proofs.Simples.{a_write, write_unended, written_head}
use Rattle.pld_parse.proofs.simple.write_statement.Goals as goal

pub returns-in_err-rest-3 : goal.returns-in_err-rest-3
returns-in_err-rest-3 c =
    let p = err_from_is_err_and c.from_residual-in_err-rest-3.result c.from_residual-in_err-rest-3.ensures.1 in
    rw (p.1, p.2) (write_unended c.in-Some.port (symbols c.args.tokens.now) (symbols c.in_ok-rest-2.rest.now) (symbols c.in_ok-value.rest.now) c.in_ok-value.value c.in_err-rest-3.field-0.0 (cc (c.in_ok-rest.ensures, c.in-Some.ensures, c.in_ok-rest-2.ensures)) c.in_ok-value.ensures c.in_err-rest-3.ensures)

pub returns : goal.returns
returns c =
    let s : symbols c.args.tokens.now ≡ written_head c.in-Some.port (symbols c.in_ok-rest-2.rest.now) = cc (c.in_ok-rest.ensures, c.in-Some.ensures, c.in_ok-rest-2.ensures) in
    a_write c.in-Some.port (symbols c.args.tokens.now) (symbols c.in_ok-rest-2.rest.now) (symbols c.in_ok-value.rest.now) (symbols c.in_ok-rest-3.rest.now) c.in_ok-value.value s c.in_ok-value.ensures c.in_ok-rest-3.ensures
