use Rattle.std.proofs.Common.{◌≡◌, take, map, []}
use Rattle.fsm_sched.specs.Rule.{placed_all}
use Rattle.fsm_sched.proofs.placing.states_by_rule.Given as goal

abbrev pub invariant-loop-m : goal.invariant-loop-m
invariant-loop-m l = map (λ s. s.items) l.states.items ≡ placed_all (take l.m-index l.block) []
