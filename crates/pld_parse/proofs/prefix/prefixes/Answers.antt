use Rattle.std.proofs.Common.{◌≡◌}
use Rattle.std.proofs.lemmas.Option.{MatchOption-at_some}
use Rattle.std.proofs.lemmas.Result.{err_from_is_err_and}
use Rattle.pld_grammar.specs.Symbols.{symbols}
use Rattle.pld_parse.specs.Reading.{NoPrefix, written}
use Rattle.pld_parse.proofs.Prefixes.{prefixes_more}
use Rattle.pld_parse.proofs.Expressions.{prefixes_wrong}
use Rattle.pld_parse.proofs.prefix.prefixes.Goals as goal

pub returns-in_err-form : goal.returns-in_err-form
returns-in_err-form c =
    let p = err_from_is_err_and c.from_residual.result c.from_residual.ensures.1 in
    rw (p.1, p.2) (prefixes_wrong c.loop-forms.forms (symbols c.args.tokens.now) (symbols c.loop-forms.rest.now) c.in_err-form.field-0.0 c.loop-forms.invariant c.in_err-form.ensures)

pub loop-forms-preserved : goal.loop-forms-preserved
loop-forms-preserved c =
    let b = MatchOption-at_some (NoPrefix (symbols c.loop-forms.rest.now)) (λ x. symbols c.loop-forms.rest.now ≡ written x.0 (symbols x.1.now)) _ c.in-Some.is c.in_ok-form.ensures in
    prefixes_more c.loop-forms.forms c.push.new.self c.in-Some.form (symbols c.args.tokens.now) (symbols c.loop-forms.rest.now) (symbols c.in-Some.behind.now) c.loop-forms.invariant b c.in_ok-push.ensures.ok
