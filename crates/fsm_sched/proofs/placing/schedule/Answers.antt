use Rattle.std.proofs.Common.{ap, ◌∙◌}
use Rattle.fsm_core.specs.Page.{run}
use Rattle.fsm_sched.proofs.States.{scheduled_runs}
use Rattle.fsm_sched.proofs.placing.schedule.Goals as goal

pub returns-clause-means : goal.returns-clause-means
returns-clause-means c = λ lengths x. ap (λ ss. run lengths ss x) c.in_ok-states.ensures ∙ scheduled_runs lengths c.args.block.now x
