use Rattle.std.proofs.Common.{◌≡◌, ◌∙◌, ap}
use Rattle.std.proofs.lemmas.Result.{err_from_is_err_and, MatchResult-weaker}
use Rattle.pld_ast.specs.declared.tree.Stmt.TheVariants.{If}
use Rattle.pld_grammar.specs.Symbols.{symbols}
use Rattle.pld_parse.specs.declared.statement.Arm.{Arm}
use Rattle.pld_parse.specs.Reading.{chained}
use Rattle.pld_parse.proofs.Blocks.{nothing_reached, one_more, one_wrong, all_reached, a_block, block_wrong, no_arms, test_wrong, arm_wrong, an_if, else_wrong, an_else, next_arm, a_while, while_test_wrong, while_block_wrong, a_for, head_wrong, for_block_wrong, a_return}
use Rattle.pld_parse.proofs.statement.+block.Goals as goal

pub block-loop-end-init : goal.block-loop-end-init
block-loop-end-init t c = nothing_reached (symbols c.args.tokens.now) c.new-body.result c.new-body.ensures

pub block-returns-in-Some : goal.block-returns-in-Some
block-returns-in-Some t c = all_reached (symbols c.args.tokens.now) (symbols c.loop-end.rest.now) (symbols c.in-Some.end.now) c.loop-end.body c.loop-end.invariant c.in-Some.ensures

pub block-returns-in_err-rest : goal.block-returns-in_err-rest
block-returns-in_err-rest t c =
    let p = err_from_is_err_and c.from_residual.result c.from_residual.ensures.1 in
    rw (p.1, p.2) (one_wrong (symbols c.args.tokens.now) (symbols c.loop-end.rest.now) c.loop-end.body c.in_err-rest.field-0.0 c.loop-end.invariant c.in_err-rest.ensures)

pub block-loop-end-preserved : goal.block-loop-end-preserved
block-loop-end-preserved t c = one_more (symbols c.args.tokens.now) (symbols c.loop-end.rest.now) (symbols c.in_ok-rest.rest.now) c.loop-end.body c.statement.new.body c.loop-end.invariant c.in_ok-rest.ensures

pub braced-returns : goal.braced-returns
braced-returns t c = MatchResult-weaker c.block.result c.block.ensures (λ x p. a_block (symbols c.args.tokens.now) (symbols c.in_ok-rest.rest.now) (symbols x.1.now) x.0 c.in_ok-rest.ensures p) (λ e f. block_wrong (symbols c.args.tokens.now) (symbols c.in_ok-rest.rest.now) e c.in_ok-rest.ensures f)

pub choice-loop-arms-init : goal.choice-loop-arms-init
choice-loop-arms-init t c = no_arms (symbols c.args.tokens.now) c.new-arms.result c.new-arms.ensures

pub choice-returns-in_err-test : goal.choice-returns-in_err-test
choice-returns-in_err-test t c =
    let p = err_from_is_err_and c.from_residual.result c.from_residual.ensures.1 in
    rw (p.1, p.2) (test_wrong (symbols c.args.tokens.now) (symbols c.loop-arms.rest.now) c.loop-arms.arms c.in_err-test.field-0.0 c.loop-arms.invariant c.in_err-test.ensures)

pub choice-returns-in_err-body : goal.choice-returns-in_err-body
choice-returns-in_err-body t c =
    let p = err_from_is_err_and c.from_residual-in_err-body.result c.from_residual-in_err-body.ensures.1 in
    rw (p.1, p.2) (arm_wrong (symbols c.args.tokens.now) (symbols c.loop-arms.rest.now) (symbols c.in_ok-test.inner.now) c.loop-arms.arms c.in_ok-test.test c.in_err-body.field-0.0 c.loop-arms.invariant c.in_ok-test.ensures c.in_err-body.ensures)

pub choice-returns-in_default : goal.choice-returns-in_default
choice-returns-in_default t c =
    let e : c.in_ok-chain.field-0 ≡ chained c.loop-arms.arms (If c.in_ok-test.test c.in_ok-body.body c.new.result) = c.in_ok-chain.ensures in
    rw (e ∙ ap (λ x. chained c.loop-arms.arms (If c.in_ok-test.test c.in_ok-body.body x)) c.new.ensures)
    (an_if (symbols c.args.tokens.now) (symbols c.loop-arms.rest.now) (symbols c.in_ok-test.inner.now) (symbols c.in_ok-body.end.now) c.loop-arms.arms c.in_ok-test.test c.in_ok-body.body c.loop-arms.invariant c.in_ok-test.ensures c.in_ok-body.ensures c.in_default.ensures)

pub choice-returns-in_err-otherwise : goal.choice-returns-in_err-otherwise
choice-returns-in_err-otherwise t c =
    let p = err_from_is_err_and c.from_residual-in_err-otherwise.result c.from_residual-in_err-otherwise.ensures.1 in
    rw (p.1, p.2) (else_wrong (symbols c.args.tokens.now) (symbols c.loop-arms.rest.now) (symbols c.in_ok-test.inner.now) (symbols c.in_ok-body.end.now) (symbols c.in-Some.more.now) c.loop-arms.arms c.in_ok-test.test c.in_ok-body.body c.in_err-otherwise.field-0.0 c.loop-arms.invariant c.in_ok-test.ensures c.in_ok-body.ensures c.in-Some.ensures c.in_default-behind.ensures c.in_err-otherwise.ensures)

pub choice-returns-in_default-behind : goal.choice-returns-in_default-behind
choice-returns-in_default-behind t c = rw c.in_ok-chain-2.ensures (an_else (symbols c.args.tokens.now) (symbols c.loop-arms.rest.now) (symbols c.in_ok-test.inner.now) (symbols c.in_ok-body.end.now) (symbols c.in-Some.more.now) (symbols c.in_ok-otherwise.end.now) c.loop-arms.arms c.in_ok-test.test c.in_ok-body.body c.in_ok-otherwise.otherwise c.loop-arms.invariant c.in_ok-test.ensures c.in_ok-body.ensures c.in-Some.ensures c.in_default-behind.ensures c.in_ok-otherwise.ensures)

pub choice-loop-arms-preserved : goal.choice-loop-arms-preserved
choice-loop-arms-preserved t c =
    let arm : Arm = record { test = c.in_ok-test.test; body = c.in_ok-body.body } in
    next_arm (symbols c.args.tokens.now) (symbols c.loop-arms.rest.now) (symbols c.in_ok-test.inner.now) (symbols c.in_ok-body.end.now) (symbols c.in-Some.more.now) (symbols c.in-Some-behind.next.now) c.loop-arms.arms c.push.new.self arm c.loop-arms.invariant c.in_ok-test.ensures c.in_ok-body.ensures c.in-Some.ensures c.in-Some-behind.ensures c.in_ok-push.ensures.ok

pub repeat-returns-in_err-test : goal.repeat-returns-in_err-test
repeat-returns-in_err-test t c =
    let p = err_from_is_err_and c.from_residual.result c.from_residual.ensures.1 in
    rw (p.1, p.2) (while_test_wrong (symbols c.args.tokens.now) c.in_err-test.field-0.0 c.in_err-test.ensures)

pub repeat-returns-in_err-body : goal.repeat-returns-in_err-body
repeat-returns-in_err-body t c =
    let p = err_from_is_err_and c.from_residual-in_err-body.result c.from_residual-in_err-body.ensures.1 in
    rw (p.1, p.2) (while_block_wrong (symbols c.args.tokens.now) (symbols c.in_ok-test.inner.now) c.in_ok-test.test c.in_err-body.field-0.0 c.in_ok-test.ensures c.in_err-body.ensures)

pub repeat-returns : goal.repeat-returns
repeat-returns t c = a_while (symbols c.args.tokens.now) (symbols c.in_ok-test.inner.now) (symbols c.in_ok-body.rest.now) c.in_ok-test.test c.in_ok-body.body c.in_ok-test.ensures c.in_ok-body.ensures

pub counted-returns-in_err-start : goal.counted-returns-in_err-start
counted-returns-in_err-start t c =
    let p = err_from_is_err_and c.from_residual.result c.from_residual.ensures.1 in
    rw (p.1, p.2) (head_wrong (symbols c.args.tokens.now) c.in_err-start.field-0.0 c.in_err-start.ensures)

pub counted-returns-in_err-turn : goal.counted-returns-in_err-turn
counted-returns-in_err-turn t c =
    let p = err_from_is_err_and c.from_residual-in_err-turn.result c.from_residual-in_err-turn.ensures.1 in
    rw (p.1, p.2) (for_block_wrong (symbols c.args.tokens.now) (symbols c.in_ok-start.inner.now) c.in_ok-start.start c.in_ok-start.test c.in_ok-start.step c.in_err-turn.field-0.0 c.in_ok-start.ensures c.in_err-turn.ensures)

pub counted-returns : goal.counted-returns
counted-returns t c = a_for (symbols c.args.tokens.now) (symbols c.in_ok-start.inner.now) (symbols c.in_ok-turn.rest.now) c.args.body.now c.push-2.new.self c.push-3.new.self c.push.new.self c.in_ok-turn.turn c.in_ok-start.start c.in_ok-start.test c.in_ok-start.step c.in_ok-start.ensures c.in_ok-turn.ensures c.in_ok-push.ensures.ok c.in_ok-push-2.ensures.ok c.in_ok-push-3.ensures.ok

pub single-returns-in_ok-rest-in-Return : goal.single-returns-in_ok-rest-in-Return
single-returns-in_ok-rest-in-Return t c = a_return (symbols c.args.tokens.now) (symbols c.in-Some.rest.now) (symbols c.in_ok-rest-in-Return.rest.now) c.in-Some.at c.in-Some.kind.now c.in-Some.ensures c.in-Return.is c.in_ok-rest-in-Return.ensures
