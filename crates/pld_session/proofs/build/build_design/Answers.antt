use Rattle.std.proofs.Common.{sym, subst}
use Rattle.pld_link.specs.Seats.{IsPlacement}
use Rattle.pld_session.proofs.Running.{placement}
use Rattle.pld_session.proofs.build.build_design.Goals as goal

pub make_build-requires-clause-placed : goal.make_build-requires-clause-placed
make_build-requires-clause-placed g c =
    let d = c.graph-graph.result.now in
    let sound = c.operators-operators.ensures.sound in
    subst (λ leaves. IsPlacement d leaves) (sym c.in_ok-placement.ensures.exact.0) (placement d sound (c.operators_have_leaves.ensures d sound c.in_ok-placement.ensures.exact.1))
