use Rattle.std.proofs.Common.{true, false, sym, ◌∙◌}
use Rattle.fabric_run.specs.Trees.{tree_setup}
use Rattle.leaf_net.proofs.Showing.{configured}
use Rattle.fabric_core.proofs.Hosting.{ready_if}
use Rattle.fabric_core.proofs.board.Board.make_ready.Goals as goal

pub returns-then-configured-clause-shows : goal.returns-then-configured-clause-shows
returns-then-configured-clause-shows c st s =
    let setup = tree_setup c.args.plan.now in
    ready_if setup st c.host_moves.new.self true (sym (configured setup st c.args.self.now.net s.net) ∙ sym c.configured.ensures ∙ c.if-configured.true) (c.host_moves.ensures.shows st s)

pub returns-else-configured-clause-shows : goal.returns-else-configured-clause-shows
returns-else-configured-clause-shows c st s =
    let setup = tree_setup c.args.plan.now in
    ready_if setup st c.args.self.now false (sym (configured setup st c.args.self.now.net s.net) ∙ sym c.configured.ensures ∙ c.if-configured.false) s
