use Rattle.std.proofs.Common.{◌<◌, length, refl, sym, ap, subst, ◌∙◌, slice_set}
use Rattle.pld_graph.specs.Entries.{listed}
use Rattle.pld_graph.specs.Masks.{IsMask}
use Rattle.pld_graph.specs.Design.{operator_at}
use Rattle.pld_graph.proofs.Masks.{count_masked}
use Rattle.pld_graph.proofs.Named.{set_listed}
use Rattle.pld_graph.proofs.operators.Operators.set_counts.Goals as goal

pub invariant_of-self : goal.invariant_of-self
invariant_of-self c =
    let es = c.self.inside.by_name.entries in
    let k = c.args.k in
    let there = subst (λ os. k < length os) (sym c.self.view_is) c.requires in
    let list = set_listed (λ v. record v { ins = c.args.ins; outs = c.args.outs }) (λ o. record o { ins = c.args.ins; outs = c.args.outs }) (λ e. refl) es k c.index.result.now c.index.ensures in
    subst (λ os. IsMask os c.self.inside.pinned) (sym list) (count_masked (listed es) c.self.inside.pinned k _ there refl c.self.invariant)

pub returns : goal.returns
returns c =
    let k = c.args.k in
    set_listed (λ v. record v { ins = c.args.ins; outs = c.args.outs }) (λ o. record o { ins = c.args.ins; outs = c.args.outs }) (λ e. refl) c.self.inside.by_name.entries k c.index.result.now c.index.ensures
    ∙ ap (λ os. slice_set os k (record (operator_at os k) { ins = c.args.ins; outs = c.args.outs })) c.self.view_is
