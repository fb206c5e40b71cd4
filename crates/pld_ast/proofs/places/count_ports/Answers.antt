use Rattle.std.proofs.Common.{rules, ◌∙◌}
use Rattle.pld_ast.proofs.Naming.{counted}
use Rattle.pld_ast.proofs.places.count_ports.Goals as goal

pub returns : goal.returns
returns c = (search rules) ∙ counted c.args.side c.args.ports.now
