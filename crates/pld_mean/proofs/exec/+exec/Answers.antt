use Rattle.std.proofs.Common.{List, ℕ, map, refl, ap, ◌∙◌}
use Rattle.pld_ast.specs.Resolve.{declared_in, program_of, block_in, action_in}
use Rattle.pld_mean.specs.Vars.{state_of}
use Rattle.pld_mean.specs.Run.{end_of, outcome_of}
use Rattle.pld_mean.proofs.Blocks.{none_turned, while_none, while_over, while_on, while_ended, if_none, if_some, on_ok, over_at, goes_at, did_same}
use Rattle.pld_mean.proofs.exec.+exec.Goals as goal

pub statement-loop-turn-init : goal.statement-loop-turn-init
statement-loop-turn-init t c = record {
  so_far = none_turned (program_of c.args.op.now) (declared_in c.args.op.now) c.args.turns c.in-While.e c.in-While.a _;
  sized = c.requires.sized;
  same = refl;
}

pub statement-returns-then-eval-eq0-2-clause-does : goal.statement-returns-then-eval-eq0-2-clause-does
statement-returns-then-eval-eq0-2-clause-does t c =
    let lists : List (List ℕ) = map (λ v. v.items) c.args.ins.now in
    while_none (program_of c.args.op.now) (declared_in c.args.op.now) c.args.turns c.args.s.now c.in-While.e c.in-While.a c.loop-turn._turn _ (state_of lists c.loop-turn.vars) _ c.in-While.is c.loop-turn.invariant.so_far (c.eval-in-loop-turn.ensures lists) c.if-eval-eq0-2.true

pub statement-returns-then-eval-eq0-2-clause-sizes : goal.statement-returns-then-eval-eq0-2-clause-sizes
statement-returns-then-eval-eq0-2-clause-sizes t c = c.loop-turn.invariant.same

pub statement-returns-in-Over-clause-does : goal.statement-returns-in-Over-clause-does
statement-returns-in-Over-clause-does t c =
    let lists : List (List ℕ) = map (λ v. v.items) c.args.ins.now in
    let g = program_of c.args.op.now in
    let d = declared_in c.args.op.now in
    while_over g d c.args.turns c.args.s.now c.in-While.e c.in-While.a c.as_slice-in-loop-turn.result.now c.loop-turn._turn (state_of lists c.args.vars.now) (state_of lists c.loop-turn.vars) c.eval-in-loop-turn.result (end_of c.in-Over.end) c.block-in-loop-turn.new.vars.events.items c.in-While.is c.loop-turn.invariant.so_far c.loop-turn-test.true c.as_slice-in-loop-turn.ensures (c.eval-in-loop-turn.ensures lists) c.if-eval-eq0-2.false (over_at g lists c.args.turns (block_in d c.as_slice-in-loop-turn.result.now) c.loop-turn.vars c.in_ok-flow-in-While.flow c.block-in-loop-turn.new.vars c.in-Over.end c.in-Over.is c.in_ok-flow-in-While.ensures.does)

pub statement-returns-in-Over-clause-sizes : goal.statement-returns-in-Over-clause-sizes
statement-returns-in-Over-clause-sizes t c = c.in_ok-flow-in-While.ensures.sizes ∙ c.loop-turn.invariant.same

pub statement-loop-turn-preserved : goal.statement-loop-turn-preserved
statement-loop-turn-preserved t c =
    let lists : List (List ℕ) = map (λ v. v.items) c.args.ins.now in
    let g = program_of c.args.op.now in
    let d = declared_in c.args.op.now in
    record {
      so_far = while_on g d c.args.turns c.in-While.e c.in-While.a c.as_slice-in-loop-turn.result.now c.loop-turn._turn (state_of lists c.args.vars.now) (state_of lists c.loop-turn.vars) (state_of lists c.block-in-loop-turn.new.vars) c.eval-in-loop-turn.result c.loop-turn.invariant.so_far c.loop-turn-test.true c.as_slice-in-loop-turn.ensures (c.eval-in-loop-turn.ensures lists) c.if-eval-eq0-2.false (goes_at g lists c.args.turns (block_in d c.as_slice-in-loop-turn.result.now) c.loop-turn.vars c.in_ok-flow-in-While.flow c.block-in-loop-turn.new.vars c.in_default.is c.in_ok-flow-in-While.ensures.does);
      sized = c.in_ok-flow-in-While.ensures.sizes ∙ c.loop-turn.invariant.sized;
      same = c.in_ok-flow-in-While.ensures.sizes ∙ c.loop-turn.invariant.same;
    }

pub statement-returns-then-eval-eq0-clause-does : goal.statement-returns-then-eval-eq0-clause-does
statement-returns-then-eval-eq0-clause-does t c =
    let lists : List (List ℕ) = map (λ v. v.items) c.args.ins.now in
    on_ok _ c.block.ensures.does (λ flow h. if_none (program_of c.args.op.now) (declared_in c.args.op.now) c.args.turns c.args.s.now _ _ _ _ (state_of lists c.args.vars.now) _ (outcome_of flow (state_of lists c.block.new.vars)) c.in-If.is c.as_slice.ensures (c.eval.ensures lists) c.if-eval-eq0.true h)

pub statement-returns-else-eval-eq0-clause-does : goal.statement-returns-else-eval-eq0-clause-does
statement-returns-else-eval-eq0-clause-does t c =
    let lists : List (List ℕ) = map (λ v. v.items) c.args.ins.now in
    on_ok _ c.block-else-eval-eq0.ensures.does (λ flow h. if_some (program_of c.args.op.now) (declared_in c.args.op.now) c.args.turns c.args.s.now _ _ _ _ (state_of lists c.args.vars.now) _ (outcome_of flow (state_of lists c.block-else-eval-eq0.new.vars)) c.in-If.is c.as_slice-else-eval-eq0.ensures (c.eval.ensures lists) c.if-eval-eq0.false h)

pub statement-returns-after-loop-turn-clause-does : goal.statement-returns-after-loop-turn-clause-does
statement-returns-after-loop-turn-clause-does t c =
    let lists : List (List ℕ) = map (λ v. v.items) c.args.ins.now in
    while_ended (program_of c.args.op.now) (declared_in c.args.op.now) c.args.turns c.args.s.now c.in-While.e c.in-While.a c.loop-turn._turn _ (state_of lists c.loop-turn.vars) _ c.in-While.is c.loop-turn.invariant.so_far c.loop-turn-test.false (c.without_turns.ensures lists)

pub statement-returns-in-Read-clause-does : goal.statement-returns-in-Read-clause-does
statement-returns-in-Read-clause-does t c =
    did_same (program_of c.args.op.now) (map (λ v. v.items) c.args.ins.now) c.args.turns _ _ c.args.vars.now c.read.new.vars c.read.result (ap (action_in (declared_in c.args.op.now)) c.in-Read.is) (c.read.ensures.does c.args.turns)

pub statement-returns-in-Write-clause-does : goal.statement-returns-in-Write-clause-does
statement-returns-in-Write-clause-does t c =
    let lists : List (List ℕ) = map (λ v. v.items) c.args.ins.now in
    did_same (program_of c.args.op.now) lists c.args.turns _ _ c.args.vars.now c.write.new.vars c.write.result (ap (action_in (declared_in c.args.op.now)) c.in-Write.is) (c.write.ensures.does lists c.args.turns)
