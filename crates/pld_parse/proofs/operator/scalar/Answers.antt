use Rattle.std.proofs.Common.{refl}
use Rattle.std.proofs.lemmas.Result.{err_from_is_err_and, MatchResult-weaker}
use Rattle.pld_grammar.specs.Symbols.{symbols}
use Rattle.pld_parse.proofs.Operators.{scalar_unended, a_plain, initializer_wrong, an_initial}
use Rattle.pld_parse.proofs.operator.scalar.Goals as goal

pub returns-in_default : goal.returns-in_default
returns-in_default c = MatchResult-weaker c.expect.result c.expect.ensures
    (λ rest s. a_plain c.args.ty c.args.name c.args.made.now _ (symbols c.args.tokens.now) (symbols rest.now) s c.in_ok-push.ensures.ok refl refl)
    (λ e f. scalar_unended (symbols c.args.tokens.now) e c.requires c.in_default.ensures f)

pub returns-in_err-value : goal.returns-in_err-value
returns-in_err-value c =
    let p = err_from_is_err_and c.from_residual-in_err-value.result c.from_residual-in_err-value.ensures.1 in
    rw (p.1, p.2) (initializer_wrong (symbols c.args.tokens.now) (symbols c.in-Some.more.now) c.in_err-value.field-0.0 c.in-Some.ensures c.in_err-value.ensures)

pub returns : goal.returns
returns c = an_initial c.args.ty c.args.name c.args.made.now _ (symbols c.args.tokens.now) (symbols c.in-Some.more.now) (symbols c.in_ok-value.rest.now) c.in_ok-value.value c.in-Some.ensures c.in_ok-value.ensures c.in_ok-push.ensures.ok refl c.in_ok-push-2.ensures.ok
