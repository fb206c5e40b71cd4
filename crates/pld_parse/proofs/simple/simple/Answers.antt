use Rattle.std.proofs.lemmas.Result.{err_from_is_err_and, MatchResult-weaker}
use Rattle.pld_grammar.specs.Symbols.{symbols}
use Rattle.pld_parse.proofs.Simples.{simple_target_wrong, a_simple, simple_wrong}
use Rattle.pld_parse.proofs.simple.simple.Goals as goal

pub returns-in_err-target : goal.returns-in_err-target
returns-in_err-target c =
    let p = err_from_is_err_and c.from_residual.result c.from_residual.ensures.1 in
    rw (p.1, p.2) (simple_target_wrong c.args.mark c.in-Some.name (symbols c.args.tokens.now) (symbols c.in-Some.rest.now) c.in_err-target.field-0.0 c.in-Some.ensures c.in_err-target.ensures)

pub returns : goal.returns
returns c = MatchResult-weaker c.changed.result c.changed.ensures
    (λ x p. a_simple c.args.mark c.in-Some.name c.in_ok-target.target (symbols c.args.tokens.now) (symbols c.in-Some.rest.now) (symbols c.in_ok-target.rest.now) (symbols x.1.now) x.0 c.in-Some.ensures c.in_ok-target.ensures p)
    (λ e f. simple_wrong c.args.mark c.in-Some.name c.in_ok-target.target (symbols c.args.tokens.now) (symbols c.in-Some.rest.now) (symbols c.in_ok-target.rest.now) e c.in-Some.ensures c.in_ok-target.ensures f)
