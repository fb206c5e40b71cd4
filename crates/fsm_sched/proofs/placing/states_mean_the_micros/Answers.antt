use Rattle.fsm_sched.proofs.States.{scheduled_runs}
use Rattle.fsm_sched.proofs.placing.states_mean_the_micros.Goals as goal

pub returns : goal.returns
returns c = λ lengths micros x. scheduled_runs lengths micros x
