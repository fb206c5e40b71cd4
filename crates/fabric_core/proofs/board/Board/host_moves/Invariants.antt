use Rattle.std.proofs.Common.{◌≡◌, ℕ}
use Rattle.net_tree.specs.Links.{Links}
use Rattle.fabric_run.specs.World.{State, each_to, send, receive}
use Rattle.fabric_run.specs.Trees.{tree_setup}
use Rattle.fabric_core.specs.Boards.{Shows, HostFits, HostHasRows, HasSpace, HaveRoom}
use Rattle.fabric_core.proofs.board.Board.host_moves.Given as goal

abbrev pub invariant-loop-k : goal.invariant-loop-k
invariant-loop-k l = record {
  shows : (st : State Links) → Shows (tree_setup l.plan) st l.initial.self → Shows (tree_setup l.plan) (each_to l.k (send (tree_setup l.plan)) st) l.self;
  fits : HostFits l.plan l.self;
  rows : HostHasRows l.plan l.self.net;
  outs : l.self.outs.items ≡ l.initial.self.outs.items;
}

abbrev pub invariant-loop-j : goal.invariant-loop-j
invariant-loop-j l = record {
  shows : (st : State Links) → Shows (tree_setup l.plan) st l.initial.self → Shows (tree_setup l.plan) (each_to l.j receive st) l.self;
  fits : HostFits l.plan l.self;
  rows : HostHasRows l.plan l.self.net;
  space : HasSpace l.j l.self.outs.items;
  room : (most : ℕ) → HaveRoom most l.initial.self → HaveRoom most l.self;
}
