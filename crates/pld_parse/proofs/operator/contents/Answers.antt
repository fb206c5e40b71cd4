use Rattle.std.proofs.Common.{refl}
use Rattle.std.proofs.lemmas.Result.{err_from_is_err_and}
use Rattle.pld_grammar.specs.Symbols.{symbols}
use Rattle.pld_parse.proofs.Operators.{statements_wrong, contents_read}
use Rattle.pld_parse.proofs.operator.contents.Goals as goal

pub returns-in_err-more : goal.returns-in_err-more
returns-in_err-more c =
    let p = err_from_is_err_and c.from_residual-in_err-more.result c.from_residual-in_err-more.ensures.1 in
    rw (p.1, p.2) (statements_wrong (symbols c.args.tokens.now) (symbols c.in_ok-made.rest.now) c.in_ok-made.made c.in_err-more.field-0.0 c.in_ok-made.ensures c.in_err-more.ensures)

pub returns : goal.returns
returns c = contents_read (symbols c.args.tokens.now) (symbols c.in_ok-made.rest.now) (symbols c.in_ok-more.rest.now) c.in_ok-made.made _ c.in_ok-more.more c.in_ok-made.ensures c.in_ok-more.ensures refl refl c.in_ok-append.ensures
