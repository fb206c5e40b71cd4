use Rattle.std.proofs.Common.{not, filter, ap, ◌∙◌}
use Rattle.pld_graph.specs.declared.parts.FromEnd.TheVariants as from_end
use Rattle.pld_graph.specs.declared.parts.ToEnd.TheVariants as to_end
use Rattle.pld_graph.specs.Parts.{same_from, same_to}
use Rattle.pld_graph.proofs.Once.{two_filters}
use Rattle.pld_graph.proofs.channels.Channels.drop_host.Goals as goal

pub returns : goal.returns
returns c =
    let n = c.args.name.now in
    c.drop_to.ensures.removed ∙ ap (filter (λ d. not (same_to (to_end.Output n) d.to))) c.drop_from.ensures.removed
    ∙ two_filters (λ d. same_from (from_end.Input n) d.from) (λ d. same_to (to_end.Output n) d.to) c.args.self.now
