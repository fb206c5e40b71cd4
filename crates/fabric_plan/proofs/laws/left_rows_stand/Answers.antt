use Rattle.std.proofs.Common.{refl}
use Rattle.fabric_run.specs.Plan.{setup_of}
use Rattle.fabric_plan.proofs.Left.{left_stand, no_rows_stand}
use Rattle.fabric_plan.proofs.laws.left_rows_stand.Goals as goal

pub returns : goal.returns
returns g c = record {
  left = λ net plan st. left_stand (setup_of net plan) st plan.depth refl;
  none = λ depth. no_rows_stand depth;
}
