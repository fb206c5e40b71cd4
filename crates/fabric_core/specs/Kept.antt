-- How the code keeps a run.
use Rattle.std.specs.Prelude.{◌+◌, List, length}
use Rattle.fabric_run.specs.declared.entry.Entry.{Entry}
use Rattle.fabric_run.specs.Plan.{PlanValue, IsSound}
use Rattle.fabric_run.specs.Replay.{replay, IsLegal}
use Rattle.fabric_run.specs.Trees.{tree_setup}
use Rattle.fabric_core.specs.declared.board.Board.{Board}
use Rattle.fabric_core.specs.Boards.{Shows, HaveRoom}
use Rattle.fabric_pages.specs.Counted.{IsCounted}

-- the plan is sound and the journal legal; the board shows the state that the journal stands for; the counts are in their bounds; and each output
-- has room for one word a round, and one more
pub record IsKept (plan : PlanValue) (journal : List Entry) (board : Board) : Type 0 where
  pub sound : IsSound plan
  pub legal : IsLegal (tree_setup plan) journal
  pub shows : Shows (tree_setup plan) (replay (tree_setup plan) journal) board
  pub counted : IsCounted (tree_setup plan) (length plan.pages) (length journal) (replay (tree_setup plan) journal)
  pub rooms : HaveRoom (plan.rounds + 1) board
