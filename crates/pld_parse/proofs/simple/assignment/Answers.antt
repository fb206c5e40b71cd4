use Rattle.std.proofs.lemmas.Result.{err_from_is_err_and, MatchResult-weaker}
use Rattle.pld_grammar.specs.Symbols.{symbols}
use Rattle.pld_parse.proofs.Simples.{target_wrong, an_assignment, assignment_wrong}
use Rattle.pld_parse.proofs.simple.assignment.Goals as goal

pub returns-in_err-target : goal.returns-in_err-target
returns-in_err-target c =
    let p = err_from_is_err_and c.from_residual.result c.from_residual.ensures.1 in
    rw (p.1, p.2) (target_wrong c.args.name (symbols c.args.tokens.now) c.in_err-target.field-0.0 c.in_err-target.ensures)

pub returns : goal.returns
returns c = MatchResult-weaker c.assigned.result c.assigned.ensures
    (λ x p. an_assignment c.args.name c.in_ok-target.target (symbols c.args.tokens.now) (symbols c.in_ok-target.rest.now) (symbols x.1.now) x.0 c.in_ok-target.ensures p)
    (λ e f. assignment_wrong c.args.name c.in_ok-target.target (symbols c.args.tokens.now) (symbols c.in_ok-target.rest.now) e c.in_ok-target.ensures f)
