use Rattle.std.proofs.Common.{List, ℕ, map, ap, ◌∙◌}
use Rattle.pld_mean.proofs.Runs.{traced}
use Rattle.pld_mean.proofs.run.run_c.Goals as goal

pub returns : goal.returns
returns c =
    let lists : List (List ℕ) = map (λ v. v.items) c.args.ins.now in
    let whole = traced c.args.op.now c.operator-tree.result.now c.as_slice.result.now lists c.args.turns c.in_ok-vars.vars c.block.new.vars c.in_ok-flow.flow c.ended-end.result c.operator-tree.ensures.value c.as_slice.ensures c.operator-tree.ensures.sound (c.in_ok-vars.ensures.state lists) c.in_ok-flow.ensures.does c.ended-end.ensures in
    (ap (λ v. v.items) c.into_events.ensures ∙ ap (λ t. t.events) whole, ap (λ t. t.end) whole)
