use Rattle.std.proofs.Common.{◌∙◌}
use Rattle.pld_graph.proofs.Once.{out_filter, in_filter}
use Rattle.pld_graph.proofs.channels.Channels.drop_at.Goals as goal

pub returns-in-Out : goal.returns-in-Out
returns-in-Out c = c.drop_from.ensures.removed ∙ out_filter c.args.end.now c.args.self.now c.in-Out.is c.drop_from.ensures.sides

pub returns-in-In : goal.returns-in-In
returns-in-In c = c.drop_to.ensures.removed ∙ in_filter c.args.end.now c.args.self.now c.in-In.is c.drop_to.ensures.sides
