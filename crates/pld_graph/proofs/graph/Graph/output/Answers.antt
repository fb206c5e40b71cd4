use Rattle.std.proofs.Common.{◌≡◌, None, sym, ap, ◌∙◌, subst}
use Rattle.pld_base.specs.declared.event.Side.TheVariants.{Out}
use Rattle.pld_graph.specs.Edits.{fault_in, host_refusal}
use Rattle.pld_graph.proofs.Refusals.{output_sound}
use Rattle.pld_graph.proofs.graph.Graph.output.Goals as goal

pub put-requires : goal.put-requires
put-requires c =
    let fine = sym c.may_host.ensures.fault ∙ ap fault_in c.in_default.is in
    output_sound c.args.self.now c.args.name c.args.from (subst (λ n. host_refusal c.args.name Out c.args.from n c.args.self.now ≡ None) c.outputs.ensures fine) c.in_default.ensures.sound
