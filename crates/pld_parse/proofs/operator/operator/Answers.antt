use Rattle.std.proofs.Common.{◌≡◌, refl}
use Rattle.std.proofs.lemmas.Result.{err_from_is_err_and}
use Rattle.pld_grammar.specs.Symbols.{symbols}
use Rattle.pld_parse.proofs.Operators.{ports_wrong, brace_missing, contents_wrong, text_too_long, operator_read, header}
use Rattle.pld_parse.proofs.operator.operator.Goals as goal

pub returns-in_err-ports : goal.returns-in_err-ports
returns-in_err-ports c =
    let p = err_from_is_err_and c.from_residual-in_err-ports.result c.from_residual-in_err-ports.ensures.1 in
    let h : symbols c.args.tokens.now ≡ header c.in-Some.name (symbols c.in_ok-rest-2.rest.now) = cc (c.in_ok-rest.ensures, c.in-Some.ensures, c.in_ok-rest-2.ensures) in
    rw (p.1, p.2) (ports_wrong c.in-Some.name (symbols c.args.tokens.now) (symbols c.in_ok-rest-2.rest.now) c.in_err-ports.field-0.0 h c.in_err-ports.ensures)

pub returns-in_err-rest-3 : goal.returns-in_err-rest-3
returns-in_err-rest-3 c =
    let p = err_from_is_err_and c.from_residual-in_err-rest-3.result c.from_residual-in_err-rest-3.ensures.1 in
    let h : symbols c.args.tokens.now ≡ header c.in-Some.name (symbols c.in_ok-rest-2.rest.now) = cc (c.in_ok-rest.ensures, c.in-Some.ensures, c.in_ok-rest-2.ensures) in
    rw (p.1, p.2) (brace_missing c.in-Some.name (symbols c.args.tokens.now) (symbols c.in_ok-rest-2.rest.now) (symbols c.in_ok-ports.rest.now) c.in_ok-ports.ports c.in_err-rest-3.field-0.0 h c.in_ok-ports.ensures c.in_err-rest-3.ensures)

pub returns-in_err-made : goal.returns-in_err-made
returns-in_err-made c =
    let p = err_from_is_err_and c.from_residual-in_err-made.result c.from_residual-in_err-made.ensures.1 in
    let h : symbols c.args.tokens.now ≡ header c.in-Some.name (symbols c.in_ok-rest-2.rest.now) = cc (c.in_ok-rest.ensures, c.in-Some.ensures, c.in_ok-rest-2.ensures) in
    rw (p.1, p.2) (contents_wrong c.in-Some.name (symbols c.args.tokens.now) (symbols c.in_ok-rest-2.rest.now) (symbols c.in_ok-ports.rest.now) (symbols c.in_ok-rest-3.rest.now) c.in_ok-ports.ports c.in_err-made.field-0.0 h c.in_ok-ports.ensures c.in_ok-rest-3.ensures c.in_err-made.ensures)

pub returns-in-None : goal.returns-in-None
returns-in-None c =
    let h : symbols c.args.tokens.now ≡ header c.in-Some.name (symbols c.in_ok-rest-2.rest.now) = cc (c.in_ok-rest.ensures, c.in-Some.ensures, c.in_ok-rest-2.ensures) in
    operator_read c.in-Some.name (symbols c.args.tokens.now) (symbols c.in_ok-rest-2.rest.now) (symbols c.in_ok-ports.rest.now) (symbols c.in_ok-rest-3.rest.now) c.in_ok-made.rest.now c.in_ok-ports.ports c.in_ok-made.made _ h c.in_ok-ports.ensures c.in_ok-rest-3.ensures c.in_ok-made.ensures c.in-None.ensures refl

pub returns-in-Some-first : goal.returns-in-Some-first
returns-in-Some-first c =
    let h : symbols c.args.tokens.now ≡ header c.in-Some.name (symbols c.in_ok-rest-2.rest.now) = cc (c.in_ok-rest.ensures, c.in-Some.ensures, c.in_ok-rest-2.ensures) in
    text_too_long c.in-Some.name (symbols c.args.tokens.now) (symbols c.in_ok-rest-2.rest.now) (symbols c.in_ok-ports.rest.now) (symbols c.in_ok-rest-3.rest.now) _ _ c.in_ok-made.rest.now c.in_ok-ports.ports c.in_ok-made.made h c.in_ok-ports.ensures c.in_ok-rest-3.ensures c.in_ok-made.ensures c.in-Some-first.ensures
