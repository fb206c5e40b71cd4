use Rattle.std.proofs.Common.{sym, ap, ◌∙◌}
use Rattle.std.specs.Option.{option_map}
use Rattle.std.specs.Map.Iter.{deref_pair}
use Rattle.pld_graph.specs.Design.{operator_at}
use Rattle.pld_graph.proofs.Named.{got}
use Rattle.pld_graph.proofs.operators.Operators.at.Goals as goal

pub returns : goal.returns
returns c =
    c.entry.ensures ∙ got c.self.inside.by_name.entries c.args.k _ (sym c.get_index.ensures.entry ∙ ap (option_map deref_pair) c.unwrap.ensures)
    ∙ ap (λ os. operator_at os c.args.k) c.self.view_is
