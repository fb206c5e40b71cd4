use Rattle.std.proofs.Common.{subst}
use Rattle.pld_parse.specs.Reading.{BeginsWithChange}
use Rattle.std.proofs.lemmas.Result.{err_from_is_err_and}
use Rattle.pld_grammar.specs.Symbols.{symbols}
use Rattle.pld_parse.proofs.Simples.{set_wrong, update_wrong, count_wrong, is_set, is_updated, is_counted}
use Rattle.pld_parse.proofs.simple.changed.Goals as goal

pub returns-in_err-value-in-Set : goal.returns-in_err-value-in-Set
returns-in_err-value-in-Set c =
    let p = err_from_is_err_and c.from_residual.result c.from_residual.ensures.1 in
    rw (p.1, p.2) (set_wrong c.args.mark (symbols c.args.tokens.now) (symbols c.in-Some.rest.now) c.in_err-value-in-Set.field-0.0 (subst (λ x. BeginsWithChange (symbols c.args.tokens.now) x (symbols c.in-Some.rest.now)) c.in-Set.is c.in-Some.ensures) c.in_err-value-in-Set.ensures)

pub returns-in_err-by-in-Update : goal.returns-in_err-by-in-Update
returns-in_err-by-in-Update c =
    let p = err_from_is_err_and c.from_residual-in_err-by-in-Update.result c.from_residual-in_err-by-in-Update.ensures.1 in
    rw (p.1, p.2) (update_wrong c.args.mark c.in-Update.operator (symbols c.args.tokens.now) (symbols c.in-Some.rest.now) c.in_err-by-in-Update.field-0.0 (subst (λ x. BeginsWithChange (symbols c.args.tokens.now) x (symbols c.in-Some.rest.now)) c.in-Update.is c.in-Some.ensures) c.in_err-by-in-Update.ensures)

pub returns-in_err-rest-in-Count : goal.returns-in_err-rest-in-Count
returns-in_err-rest-in-Count c =
    let p = err_from_is_err_and c.from_residual-in_err-rest-in-Count.result c.from_residual-in_err-rest-in-Count.ensures.1 in
    rw (p.1, p.2) (count_wrong c.args.mark c.in-Count.operator (symbols c.args.tokens.now) (symbols c.in-Some.rest.now) c.in_err-rest-in-Count.field-0.0 (subst (λ x. BeginsWithChange (symbols c.args.tokens.now) x (symbols c.in-Some.rest.now)) c.in-Count.is c.in-Some.ensures) c.in_err-rest-in-Count.ensures)

pub returns-in_ok-value-in-Set : goal.returns-in_ok-value-in-Set
returns-in_ok-value-in-Set c = is_set c.args.target c.args.mark (symbols c.args.tokens.now) (symbols c.in-Some.rest.now) (symbols c.in_ok-value-in-Set.rest.now) c.in_ok-value-in-Set.value (subst (λ x. BeginsWithChange (symbols c.args.tokens.now) x (symbols c.in-Some.rest.now)) c.in-Set.is c.in-Some.ensures) c.in_ok-value-in-Set.ensures

pub returns-in_ok-update-in-Update : goal.returns-in_ok-update-in-Update
returns-in_ok-update-in-Update c = rw c.in_ok-update-in-Update.ensures (is_updated c.args.target c.args.mark c.in-Update.operator (symbols c.args.tokens.now) (symbols c.in-Some.rest.now) (symbols c.in_ok-by-in-Update.rest.now) c.in_ok-by-in-Update.by (subst (λ x. BeginsWithChange (symbols c.args.tokens.now) x (symbols c.in-Some.rest.now)) c.in-Update.is c.in-Some.ensures) c.in_ok-by-in-Update.ensures)

pub returns-in_ok-update-in-Count : goal.returns-in_ok-update-in-Count
returns-in_ok-update-in-Count c = rw c.in_ok-update-in-Count.ensures (is_counted c.args.target c.args.mark c.in-Count.operator (symbols c.args.tokens.now) (symbols c.in-Some.rest.now) (symbols c.in_ok-rest-in-Count.rest.now) c.requires (subst (λ x. BeginsWithChange (symbols c.args.tokens.now) x (symbols c.in-Some.rest.now)) c.in-Count.is c.in-Some.ensures) c.in_ok-rest-in-Count.ensures)
