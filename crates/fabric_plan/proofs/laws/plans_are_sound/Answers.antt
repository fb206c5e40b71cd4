use Rattle.fabric_plan.proofs.Planned.{plan_sound}
use Rattle.fabric_plan.proofs.laws.plans_are_sound.Goals as goal

pub returns : goal.returns
returns c = plan_sound
