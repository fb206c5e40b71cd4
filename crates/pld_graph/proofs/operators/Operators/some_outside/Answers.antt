use Rattle.std.proofs.Common.{ap, ◌∙◌, not, nat_lt, ◌^◌}
use Rattle.std.specs.List.{list_any}
use Rattle.pld_graph.specs.Edits.{is_outside}
use Rattle.pld_graph.specs.Entries.{listed}
use Rattle.pld_graph.proofs.Masks.{far}
use Rattle.pld_graph.proofs.operators.Operators.some_outside.Goals as goal

pub returns : goal.returns
returns c =
    c.has_from.ensures ∙ ap (λ n. not (nat_lt c.self.inside.pinned (2 ^ n))) c.leaves.ensures.value
    ∙ far (listed c.self.inside.by_name.entries) c.self.inside.pinned (2 ^ c.args.depth) c.self.invariant ∙ ap (list_any (is_outside c.args.depth)) c.self.view_is
