use Rattle.fsm_sched.proofs.Earliest.{placed_earliest}
use Rattle.fsm_sched.proofs.placing.each_is_placed.Goals as goal

pub returns : goal.returns
returns c = λ m states. placed_earliest m states
