use Rattle.std.proofs.Common.{◌≡◌, true, false, map, subst, sym, ◌∙◌, None}
use Rattle.fabric_run.specs.Entries.{entry_of}
use Rattle.fabric_run.specs.World.{is_configured}
use Rattle.fabric_run.specs.Replay.{replay}
use Rattle.fabric_run.specs.Trees.{tree_setup}
use Rattle.leaf_net.proofs.Showing.{configured}
use Rattle.fabric_core.specs.Runs.{RunValue, setup_for, state_of}
use Rattle.fabric_core.specs.Kept.{IsKept}
use Rattle.fabric_core.proofs.Noting.{due, due_is}
use Rattle.fabric_core.proofs.fabric.Fabric.first_due.Goals as goal

pub returns-then-configured-clause-first : goal.returns-then-configured-clause-first
returns-then-configured-clause-first c =
    let plan = c.self.inside.plan in
    let words = c.self.inside.journal.items in
    let b = c.self.inside.board in
    let k : IsKept plan (map entry_of words) b = c.self.invariant.0 in
    let setup = tree_setup plan in
    let st = replay (tree_setup plan) (map entry_of words) in
    subst (λ (r : RunValue). c.first_due.result ≡ due (setup_for r) (state_of r) (is_configured (setup_for r) (state_of r))) c.self.view_is
    (c.first_due.ensures.first setup.size st.pages k.shows.pages ∙ due_is setup st true (sym (configured setup st b.net k.shows.net) ∙ sym c.configured.ensures ∙ c.if-configured.true))

pub returns-else-configured-clause-first : goal.returns-else-configured-clause-first
returns-else-configured-clause-first c =
    let plan = c.self.inside.plan in
    let words = c.self.inside.journal.items in
    let b = c.self.inside.board in
    let k : IsKept plan (map entry_of words) b = c.self.invariant.0 in
    let setup = tree_setup plan in
    let st = replay (tree_setup plan) (map entry_of words) in
    subst (λ (r : RunValue). None ≡ due (setup_for r) (state_of r) (is_configured (setup_for r) (state_of r))) c.self.view_is
    (due_is setup st false (sym (configured setup st b.net k.shows.net) ∙ sym c.configured.ensures ∙ c.if-configured.false))
