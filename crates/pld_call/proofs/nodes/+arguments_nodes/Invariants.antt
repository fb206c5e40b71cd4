use Rattle.std.proofs.Common.{length}
use Rattle.pld_call.proofs.nodes.+arguments_nodes.Given as goal

abbrev pub decreases-arguments_nodes : goal.decreases-arguments_nodes
decreases-arguments_nodes l = length l.args.now
