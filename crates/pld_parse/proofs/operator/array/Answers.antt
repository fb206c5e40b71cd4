use Rattle.std.proofs.lemmas.Result.{err_from_is_err_and}
use Rattle.pld_grammar.specs.Symbols.{symbols}
use Rattle.pld_parse.proofs.Operators.{bracket_missing, array_unended, array_read}
use Rattle.pld_parse.proofs.operator.array.Goals as goal

pub returns-in_err-rest : goal.returns-in_err-rest
returns-in_err-rest c =
    let p = err_from_is_err_and c.from_residual.result c.from_residual.ensures.1 in
    rw (p.1, p.2) (bracket_missing c.in-Some.len (symbols c.args.tokens.now) (symbols c.in-Some.rest.now) c.in_err-rest.field-0.0 c.in-Some.ensures c.in_err-rest.ensures)

pub returns-in_err-rest-2 : goal.returns-in_err-rest-2
returns-in_err-rest-2 c =
    let p = err_from_is_err_and c.from_residual-in_err-rest-2.result c.from_residual-in_err-rest-2.ensures.1 in
    rw (p.1, p.2) (array_unended c.in-Some.len (symbols c.args.tokens.now) (symbols c.in-Some.rest.now) (symbols c.in_ok-rest.rest.now) c.in_err-rest-2.field-0.0 c.in-Some.ensures c.in_ok-rest.ensures c.in_err-rest-2.ensures)

pub returns : goal.returns
returns c = array_read c.in-Some.len c.args.ty c.args.name c.args.arrays.now c.push.new.self (symbols c.args.tokens.now) (symbols c.in-Some.rest.now) (symbols c.in_ok-rest.rest.now) (symbols c.in_ok-rest-2.rest.now) c.in-Some.ensures c.in_ok-rest.ensures c.in_ok-rest-2.ensures c.in_ok-push.ensures.ok
