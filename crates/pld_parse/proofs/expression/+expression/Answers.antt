use Rattle.std.proofs.Common.{◌-◌, arith}
use Rattle.std.proofs.lemmas.Result.{err_from_is_err_and, MatchResult-weaker}
use Rattle.pld_grammar.specs.Symbols.{symbols}
use Rattle.pld_parse.proofs.Expressions.{not_closed, a_group, group_wrong, reached_first, reached_wrong, reached_more, levels_end, a_variable, an_element, with_prefixes, prefixes_wrong, prefixes_shorter, a_number_at}
use Rattle.pld_parse.proofs.expression.+expression.Goals as goal

pub closed-returns-in_err-rest : goal.closed-returns-in_err-rest
closed-returns-in_err-rest t c =
    let p = err_from_is_err_and c.from_residual-in_err-rest.result c.from_residual-in_err-rest.ensures.1 in
    rw (p.1, p.2) (not_closed c.args.mark (symbols c.args.tokens.now) (symbols c.in_ok-value.rest.now) c.in_ok-value.value c.in_err-rest.field-0.0 c.requires c.in_ok-value.ensures c.in_err-rest.ensures)

pub group-returns : goal.group-returns
group-returns t c = MatchResult-weaker c.closed.result c.closed.ensures (λ x p. a_group (symbols c.args.tokens.now) (symbols x.1.now) x.0 c.requires p) (λ e f. group_wrong (symbols c.args.tokens.now) e c.requires f)

pub levels-loop-operator-init : goal.levels-loop-operator-init
levels-loop-operator-init t c = reached_first _ (symbols c.args.tokens.now) (symbols c.in_ok-value.rest.now) c.in_ok-value.value c.in_ok-value.ensures

pub levels-returns-in_err-right : goal.levels-returns-in_err-right
levels-returns-in_err-right t c =
    let p = err_from_is_err_and c.from_residual-in_err-right.result c.from_residual-in_err-right.ensures.1 in
    rw (p.1, p.2) (reached_wrong _ (symbols c.args.tokens.now) (symbols c.loop-operator.rest.now) (symbols c.in-Some.more.now) c.loop-operator.value c.in-Some.operator c.in_err-right.field-0.0 c.loop-operator.invariant c.in-Some.ensures c.in_err-right.ensures)

pub named-returns-in_default : goal.named-returns-in_default
named-returns-in_default t c = a_variable c.args.name (symbols c.args.tokens.now) c.in_default.ensures

pub levels-loop-operator-preserved : goal.levels-loop-operator-preserved
levels-loop-operator-preserved t c =
    let m = reached_more _ (symbols c.args.tokens.now) (symbols c.loop-operator.rest.now) (symbols c.in-Some.more.now) (symbols c.in_ok-right.behind.now) c.loop-operator.value c.in_ok-right.right c.in-Some.operator c.loop-operator.invariant c.in-Some.ensures c.in_ok-right.ensures in
    rw (c.in_ok-new.ensures, c.in_ok-new-2.ensures) m

pub levels-returns : goal.levels-returns
levels-returns t c =
    levels_end (c.args.count - 1) c.args.count (symbols c.args.tokens.now) (symbols c.loop-operator.rest.now) c.loop-operator.value (omega (arith, c.if-count-eq0.false)) c.loop-operator.invariant c.in_default.ensures

pub named-returns : goal.named-returns
named-returns t c = rw c.in_ok-new.ensures (an_element c.args.name (symbols c.args.tokens.now) (symbols c.in-Some.rest.now) (symbols c.in_ok-index.rest.now) c.in_ok-index.index c.in-Some.ensures c.in_ok-index.ensures)

pub prefixed-returns-in_err-inner : goal.prefixed-returns-in_err-inner
prefixed-returns-in_err-inner t c =
    let p = err_from_is_err_and c.from_residual-in_err-inner.result c.from_residual-in_err-inner.ensures.1 in
    rw (p.1, p.2) (prefixes_wrong c.in_ok-forms.forms (symbols c.args.tokens.now) (symbols c.in_ok-forms.rest.now) c.in_err-inner.field-0.0 c.in_ok-forms.ensures.1 c.in_err-inner.ensures)

pub prefixed-returns : goal.prefixed-returns
prefixed-returns t c = rw c.in_ok-apply.ensures (with_prefixes c.in_ok-forms.forms (symbols c.args.tokens.now) (symbols c.in_ok-forms.rest.now) (symbols c.in_ok-inner.rest.now) c.in_ok-inner.inner c.in_ok-forms.ensures.1 c.in_ok-inner.ensures)

pub primary-returns-in-Number : goal.primary-returns-in-Number
primary-returns-in-Number t c = a_number_at (symbols c.args.tokens.now) (symbols c.in-Some.rest.now) c.in-Some.at c.in-Some.kind.now c.in-Number.n c.in-Number.ty c.in-Some.ensures c.in-Number.is

pub prefixed-primary-requires : goal.prefixed-primary-requires
prefixed-primary-requires t c =
    let w = prefixes_shorter c.in_ok-forms.forms (symbols c.args.tokens.now) (symbols c.in_ok-forms.rest.now) c.in_ok-forms.ensures.1 in
    (omega (arith, c.decreases, w), c.in_ok-forms.ensures.0)
