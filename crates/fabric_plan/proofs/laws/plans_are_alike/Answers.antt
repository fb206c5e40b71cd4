use Rattle.fabric_plan.proofs.Alike.{plans_alike}
use Rattle.fabric_plan.proofs.laws.plans_are_alike.Goals as goal

pub returns : goal.returns
returns c = λ d other given given' channels names window feeds run run'. plans_alike d other channels names given given' window feeds run run'
