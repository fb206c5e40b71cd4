use Rattle.std.proofs.Common.{◌≡◌, take, map}
use Rattle.fsm_sched.specs.Rule.{spot}
use Rattle.fsm_sched.proofs.placing.spot.Given as goal

abbrev pub invariant-loop-k : goal.invariant-loop-k
invariant-loop-k l = l.best ≡ spot l.m (map (λ s. s.items) (take l.k l.states))
