use Rattle.std.proofs.Common.{ap, ◌∙◌, arith, []}
use Rattle.fsm_sched.specs.Rule.{placed}
use Rattle.fsm_sched.proofs.Spots.{placed_step}
use Rattle.fsm_sched.proofs.placing.states_by_rule.Goals as goal

pub loop-m-preserved : goal.loop-m-preserved
loop-m-preserved c = c.in_ok-place.ensures ∙ ap (placed _) c.loop-m.invariant ∙ placed_step c.args.block.now c.loop-m.m-index _ [] (omega arith)
