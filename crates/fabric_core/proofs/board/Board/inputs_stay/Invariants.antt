use Rattle.std.proofs.Common.{◌≡◌, true, not}
use Rattle.net_tree.specs.Links.{Links}
use Rattle.fabric_run.specs.World.{State, all_to}
use Rattle.fabric_run.specs.Replay.{can_send}
use Rattle.fabric_run.specs.Trees.{tree_setup}
use Rattle.fabric_core.specs.Boards.{Shows}
use Rattle.fabric_core.proofs.board.Board.inputs_stay.Given as goal

abbrev pub invariant-loop-k : goal.invariant-loop-k
invariant-loop-k l = (st : State Links) → Shows (tree_setup l.plan) st l.self → all_to l.k (λ k. not (can_send (tree_setup l.plan) st k)) ≡ true
