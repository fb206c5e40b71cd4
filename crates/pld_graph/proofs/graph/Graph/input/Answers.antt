use Rattle.std.proofs.Common.{◌≡◌, None, sym, ap, ◌∙◌, subst}
use Rattle.pld_base.specs.declared.event.Side.TheVariants.{In}
use Rattle.pld_graph.specs.Edits.{fault_in, host_refusal}
use Rattle.pld_graph.proofs.Refusals.{input_sound}
use Rattle.pld_graph.proofs.graph.Graph.input.Goals as goal

pub put-requires : goal.put-requires
put-requires c =
    let fine = sym c.may_host.ensures.fault ∙ ap fault_in c.in_default.is in
    input_sound c.args.self.now c.args.name c.args.to (subst (λ n. host_refusal c.args.name In c.args.to n c.args.self.now ≡ None) c.inputs.ensures fine) c.in_default.ensures.sound
