use Rattle.std.proofs.Common.{sym, ap, ◌∙◌}
use Rattle.pld_graph.specs.Edits.{fault_in}
use Rattle.pld_graph.proofs.Refusals.{connect_sound}
use Rattle.pld_graph.proofs.graph.Graph.connect.Goals as goal

pub put-requires : goal.put-requires
put-requires c = connect_sound c.args.self.now c.args.from c.args.to (sym c.may_connect.ensures.fault ∙ ap fault_in c.in_default.is) c.in_default.ensures.sound
