-- What the laws of runs say over a tree.
use Rattle.std.proofs.Common.{◌≡◌, ℕ, ◌/◌, ◌<◌, List, length, Some}
use Rattle.std.specs.Prelude.{slice_get}
use Rattle.net_tree.specs.Links.{sum_to}
use Rattle.net_tree.specs.Runs as tree
use Rattle.pld_base.specs.Process.{Process}
use Rattle.pld_base.specs.Channels.{NodeEvent, OperatorNode, family_of}
use Rattle.pld_kahn.specs.Rest.{IsRestFamily}
use Rattle.fabric_run.specs.declared.entry.Entry.{Entry}
use Rattle.fabric_run.specs.declared.row.Outcome.TheVariants.{Spent}
use Rattle.fabric_run.specs.Plan.{PagePlan, PlanValue, start_of, IsSound}
use Rattle.fabric_run.specs.World.{changes}
use Rattle.fabric_run.specs.Replay.{replay, IsLegal, outcome}
use Rattle.fabric_keeps.specs.Measure.{enough}
use Rattle.fabric_keeps.specs.Facts.{RunsWell}
use Rattle.fabric_keeps.specs.Links as links
use Rattle.hot_swap.specs.Paths.{RestsAfter}
use Rattle.fabric_keeps.specs.Whole.{IsWhole}
use Rattle.fabric_keeps.proofs.Legal.{run_whole}
use Rattle.fabric_keeps.specs.Carriers.{IsCarrier}
use Rattle.fabric_keeps.proofs.Carriers.{runs_well, network_ran}
use Rattle.fabric_run.specs.Shown.{shown}
use Rattle.fabric_ends.specs.Planned.{IsDesign, SameDesign, network}
use Rattle.fabric_ends.specs.Promises.{IsRested, KeepsPromise, ShowSame}
use Rattle.fabric_ends.proofs.Plans.{sound_run}
use Rattle.fabric_ends.proofs.Promised.{promise}
use Rattle.fabric_ends.proofs.Agreeing.{show_same}
use Rattle.fabric_ends.proofs.Spending as spending
use Rattle.fabric_run.specs.Trees.{longest_way, tree_of, tree_setup}
use Rattle.fabric_tree.proofs.Carrying.{tree_carries, same_run, some_way}
use Rattle.pld_image.specs.Cores.{next}

module _ (plan : PlanValue) (sound_plan : IsSound plan) where
  pub sound : links.IsSound (tree_setup plan)
  sound = sound_run (tree_of plan) plan sound_plan

  carrier : IsCarrier (tree_setup plan).net (tree_setup plan).size (longest_way plan.depth plan.pattern)
  carrier = tree_carries plan.depth plan.pattern sound_plan.depth.0 sound_plan.depth.1

  pub well : RunsWell (tree_setup plan) (longest_way plan.depth plan.pattern)
  well = runs_well (tree_setup plan) (longest_way plan.depth plan.pattern) sound carrier

  pub whole : (journal : List Entry) → IsLegal (tree_setup plan) journal → IsWhole (tree_setup plan) (replay (tree_setup plan) journal)
  whole journal legal = run_whole (tree_setup plan) (longest_way plan.depth plan.pattern) journal sound well legal

  pub ran : (journal : List Entry) → IsLegal (tree_setup plan) journal → tree.HasRun plan.depth plan.pattern (replay (tree_setup plan) journal).rounds (replay (tree_setup plan) journal).carrier
  ran journal legal =
      same_run plan.depth plan.pattern (replay (tree_setup plan) journal).rounds (replay (tree_setup plan) journal).carrier
      (network_ran (tree_setup plan) (longest_way plan.depth plan.pattern) sound carrier journal legal)

module _ (plan : PlanValue) (operators : List Process) (design : IsDesign plan operators) where
  pub promised : (journal : List Entry) → IsLegal (tree_setup plan) journal → KeepsPromise plan.rounds plan.window (network plan operators) (shown (tree_setup plan) (replay (tree_setup plan) journal))
  promised journal legal = promise (tree_of plan) plan operators design (longest_way plan.depth plan.pattern) journal (well plan design.sound) legal

  pub spent_early : (journal : List Entry) (rest : List NodeEvent) (limit : ℕ → ℕ) → IsLegal (tree_setup plan) journal
      → IsRestFamily plan.window (network plan operators) (family_of rest)
      → ((k : ℕ) (p : PagePlan) → slice_get plan.pages k ≡ Some p → RestsAfter next (start_of p) (limit k) (family_of rest (OperatorNode k)))
      → outcome (tree_setup plan) (replay (tree_setup plan) journal) ≡ Some Spent
      → plan.rounds < enough (longest_way plan.depth plan.pattern) (length rest) (length (changes (tree_setup plan))) (sum_to (length plan.pages) (λ k. limit k / 256)) (length plan.pages)
  spent_early journal rest limit legal family ends spent =
      spending.spent_is_early (tree_of plan) plan operators design (longest_way plan.depth plan.pattern) journal rest limit (well plan design.sound) legal (some_way plan.depth plan.pattern design.sound.depth.0) family ends spent

pub agree : (plan other : PlanValue) (operators : List Process) (journal journal' : List Entry) → SameDesign plan other → IsDesign plan operators → IsDesign other operators
    → IsLegal (tree_setup plan) journal → IsLegal (tree_setup other) journal'
    → IsRested (tree_setup plan) (replay (tree_setup plan) journal) → IsRested (tree_setup other) (replay (tree_setup other) journal')
    → ShowSame (shown (tree_setup plan) (replay (tree_setup plan) journal)) (shown (tree_setup other) (replay (tree_setup other) journal'))
agree plan other operators journal journal' same design design' legal legal' rested rested' =
    show_same (tree_of plan) (tree_of other) plan other operators same design design' (replay (tree_setup plan) journal) (replay (tree_setup other) journal')
    (whole plan design.sound journal legal) (whole other design'.sound journal' legal') rested rested'
