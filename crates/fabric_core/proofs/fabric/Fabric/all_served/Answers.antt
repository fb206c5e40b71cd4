use Rattle.std.proofs.Common.{◌≡◌, true, map, subst, sym, ◌∙◌}
use Rattle.fabric_run.specs.Entries.{entry_of}
use Rattle.fabric_run.specs.Replay.{replay, all_served}
use Rattle.fabric_run.specs.Trees.{tree_setup}
use Rattle.leaf_net.proofs.Showing.{configured}
use Rattle.fabric_core.specs.Runs.{RunValue, setup_for, state_of}
use Rattle.fabric_core.specs.Kept.{IsKept}
use Rattle.fabric_core.proofs.Noting.{served_early, served_is}
use Rattle.fabric_core.proofs.fabric.Fabric.all_served.Goals as goal

pub returns-then-not-configured : goal.returns-then-not-configured
returns-then-not-configured c =
    let plan = c.self.inside.plan in
    let words = c.self.inside.journal.items in
    let b = c.self.inside.board in
    let k : IsKept plan (map entry_of words) b = c.self.invariant.0 in
    let setup = tree_setup plan in
    let st = replay (tree_setup plan) (map entry_of words) in
    subst (λ (r : RunValue). true ≡ all_served (setup_for r) (state_of r)) c.self.view_is
    (served_early setup st (sym (configured setup st b.net k.shows.net) ∙ sym c.configured.ensures ∙ c.if-not-configured.true))

pub returns : goal.returns
returns c =
    let plan = c.self.inside.plan in
    let words = c.self.inside.journal.items in
    let b = c.self.inside.board in
    let k : IsKept plan (map entry_of words) b = c.self.invariant.0 in
    let setup = tree_setup plan in
    let st = replay (tree_setup plan) (map entry_of words) in
    subst (λ (r : RunValue). c.all_served.result ≡ all_served (setup_for r) (state_of r)) c.self.view_is
    (c.all_served.ensures setup.size st.pages k.shows.pages ∙ served_is setup st (sym (configured setup st b.net k.shows.net) ∙ sym c.configured.ensures ∙ c.if-not-configured.false))
