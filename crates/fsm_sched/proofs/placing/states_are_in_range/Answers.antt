use Rattle.fsm_sched.proofs.Ranges.{scheduled_in_range}
use Rattle.fsm_sched.proofs.placing.states_are_in_range.Goals as goal

pub returns : goal.returns
returns c = λ micros. scheduled_in_range micros
