use Rattle.std.proofs.Common.{◌≡◌, ℕ, not, length, sym, ◌∙◌, ap, arith}
use Rattle.fabric_run.specs.World.{all_to}
use Rattle.fabric_run.specs.Replay.{can_send}
use Rattle.fabric_run.specs.Trees.{tree_setup}
use Rattle.fabric_core.proofs.Stillness.{not_all, all_more}
use Rattle.fabric_core.proofs.board.Board.inputs_stay.Goals as goal

pub returns-then-not-input_stays : goal.returns-then-not-input_stays
returns-then-not-input_stays c st s =
    sym (not_all (length c.args.plan.now.feeds) c.loop-k.k (λ k. not (can_send (tree_setup c.args.plan.now) st k)) (omega (arith, c.loop-k-test.true, c.feeds-k-end.ensures.value)) (sym (c.input_stays.ensures st s) ∙ c.if-not-input_stays.true))

pub loop-k-preserved : goal.loop-k-preserved
loop-k-preserved c st s =
    all_more c.loop-k.k (λ k. not (can_send (tree_setup c.args.plan.now) st k)) (c.loop-k.invariant st s) (sym (c.input_stays.ensures st s) ∙ c.if-not-input_stays.false)

pub returns : goal.returns
returns c st s =
    sym (c.loop-k.invariant st s) ∙ ap (λ (n : ℕ). all_to n (λ k. not (can_send (tree_setup c.args.plan.now) st k))) (let e : c.loop-k.k ≡ length c.args.plan.now.feeds = omega (arith, c.loop-k-test.false, c.loop-k.auto.k-end, c.feeds-k-end.ensures.value) in e)
