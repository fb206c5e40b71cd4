use Rattle.std.proofs.Common.{sym, ap, ◌∙◌, arith}
use Rattle.fsm_sched.specs.Rule.{spot_next}
use Rattle.fsm_sched.proofs.Spots.{spot_step}
use Rattle.fsm_sched.proofs.placing.spot.Goals as goal

pub loop-k-preserved : goal.loop-k-preserved
loop-k-preserved c =
    c.next_spot-best.ensures ∙ ap (λ s. spot_next c.args.m c.loop-k.best s c.loop-k.k) c.deref.ensures.value ∙ ap (λ b. spot_next c.args.m b c.index-states-k.result.items c.loop-k.k) c.loop-k.invariant ∙ sym (spot_step (λ s. s.items) c.args.m c.args.states.now c.loop-k.k c.index-states-k.result (omega arith) c.index-states-k.is)
