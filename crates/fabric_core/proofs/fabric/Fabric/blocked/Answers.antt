use Rattle.std.proofs.Common.{◌≡◌, map, subst, sym, length, ◌<◌}
use Rattle.fabric_run.specs.Entries.{entry_of}
use Rattle.fabric_run.specs.Replay.{blocked, replay}
use Rattle.fabric_run.specs.Plan.{size_of}
use Rattle.fabric_run.specs.Trees.{tree_setup}
use Rattle.fabric_core.specs.Runs.{RunValue, setup_for, state_of}
use Rattle.fabric_core.specs.Kept.{IsKept}
use Rattle.fabric_core.proofs.Making.{blocked_is}
use Rattle.fabric_core.proofs.fabric.Fabric.blocked.Goals as goal

pub returns : goal.returns
returns c =
    let plan = c.self.inside.plan in
    let k : IsKept plan (map entry_of c.self.inside.journal.items) c.self.inside.board = c.self.invariant.0 in
    let setup = tree_setup plan in
    let st = replay (tree_setup plan) (map entry_of c.self.inside.journal.items) in
    let l : c.args.k < length plan.pages = subst (λ (r : RunValue). c.args.k < length r.plan.pages) (sym c.self.view_is) c.requires in
    subst (λ (r : RunValue). c.blocked.result ≡ blocked (setup_for r) (state_of r) c.args.k) c.self.view_is
    (blocked_is plan (map entry_of c.self.inside.journal.items) c.self.inside.board k c.args.k c.leaf.result c.blocked.result l c.leaf.ensures
    (λ q m e. c.blocked.ensures (size_of plan) st.pages q k.shows.pages m e))
