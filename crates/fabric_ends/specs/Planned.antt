-- The design that a plan is made for.
use Rattle.std.specs.Prelude.{◌≡◌, ℕ, List, length, slice_get, slice_index_or, Some}
use Rattle.std.specs.List.{AllByRecursion}
use Rattle.pld_base.specs.Process.{WritesWords, Process, IsProcess, idle}
use Rattle.pld_base.specs.Machine.{machine}
use Rattle.pld_kahn.specs.Network.{Network, network_of}
use Rattle.pld_kahn.specs.Realises.{Realises}
use Rattle.pld_image.specs.Cores.{next}
use Rattle.fabric_run.specs.Plan.{PlanValue, PagePlan, IsSound, wiring_of, start_of}

abbrev pub process_at : PagePlan → Process
process_at p = machine next (start_of p)

abbrev pub network : PlanValue → List Process → Network
network plan operators = network_of operators plan.feeds (wiring_of plan)

-- the plan is sound, and its images do what these operators mean
pub record IsDesign (plan : PlanValue) (operators : List Process) : Type 0 where
  pub sound : IsSound plan
  pub as_many : length operators ≡ length plan.pages
  pub processes : AllByRecursion IsProcess operators
  pub realise : (k : ℕ) (p : PagePlan) → slice_get plan.pages k ≡ Some p → Realises (process_at p) (slice_index_or operators k idle)
  pub words : (k : ℕ) (p : PagePlan) → slice_get plan.pages k ≡ Some p → WritesWords (process_at p)

-- two plans for one design: their images, placements, depths and patterns, their journals and their rounds may differ
pub record SameDesign (plan other : PlanValue) : Type 0 where
  pub window : plan.window ≡ other.window
  pub pages : length plan.pages ≡ length other.pages
  pub wiring : wiring_of plan ≡ wiring_of other
  pub feeds : plan.feeds ≡ other.feeds
  pub outs : plan.outs ≡ other.outs
