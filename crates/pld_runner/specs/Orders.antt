-- In which order the entries of a run stand.
use Rattle.std.specs.Prelude.{List}
use Rattle.fabric_run.specs.declared.entry.Entry.{Entry}
use Rattle.fabric_run.specs.Plan.{PlanValue}
use Rattle.fabric_run.specs.Replay.{IsPlain}
use Rattle.fabric_run.specs.Trees.{tree_setup}

-- Those of one worker, who takes the pages in ascending order of their leaves; or any order.
pub data Order : Type 0 where
  Plain : Order
  Any : Order

abbrev pub IsOrdered : Order → PlanValue → List Entry → Type 0
IsOrdered Plain plan journal = IsPlain (tree_setup plan) journal
IsOrdered Any plan journal = Unit {0}
