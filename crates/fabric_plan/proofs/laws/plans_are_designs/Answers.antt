use Rattle.fabric_plan.proofs.Leaves.{page_is}
use Rattle.fabric_plan.proofs.Planned.{plan_design}
use Rattle.fabric_plan.proofs.Fed.{network_is}
use Rattle.fabric_plan.proofs.laws.plans_are_designs.Goals as goal

pub returns : goal.returns
returns c = record {
  design = λ d given operators run keeps. plan_design d given run operators keeps;
  network = λ d given operators run. network_is d given run operators;
  pages = λ d given k p e. (page_is given.leaves given.images k p e).image;
}
