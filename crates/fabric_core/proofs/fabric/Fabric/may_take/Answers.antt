use Rattle.std.proofs.Common.{◌≡◌, ℕ, ◌<◌, false, map, subst, sym, ◌∙◌}
use Rattle.fabric_run.specs.declared.entry.Entry.TheVariants.{Take}
use Rattle.fabric_run.specs.Entries.{entry_of}
use Rattle.fabric_run.specs.Replay.{replay, goes_on}
use Rattle.fabric_run.specs.Trees.{tree_setup}
use Rattle.leaf_net.proofs.Showing.{configured}
use Rattle.fabric_core.specs.Runs.{RunValue, setup_for, state_of, is_legal}
use Rattle.fabric_core.specs.Kept.{IsKept}
use Rattle.fabric_core.proofs.Noting.{take_early, take_busy, take_goes}
use Rattle.fabric_core.proofs.fabric.Fabric.may_take.Goals as goal

pub returns-then-not-configured : goal.returns-then-not-configured
returns-then-not-configured c =
    let plan = c.self.inside.plan in
    let words = c.self.inside.journal.items in
    let b = c.self.inside.board in
    let k : IsKept plan (map entry_of words) b = c.self.invariant.0 in
    let setup = tree_setup plan in
    let st = replay (tree_setup plan) (map entry_of words) in
    subst (λ (r : RunValue). (seat : ℕ) → false ≡ is_legal r (Take seat c.args.leaf)) c.self.view_is
    (λ seat. take_early setup st seat c.args.leaf (sym (configured setup st b.net k.shows.net) ∙ sym c.configured.ensures ∙ c.if-not-configured.true))

pub returns-then-not-is_ready : goal.returns-then-not-is_ready
returns-then-not-is_ready c =
    let plan = c.self.inside.plan in
    let words = c.self.inside.journal.items in
    let b = c.self.inside.board in
    let k : IsKept plan (map entry_of words) b = c.self.invariant.0 in
    let setup = tree_setup plan in
    let st = replay (tree_setup plan) (map entry_of words) in
    subst (λ (r : RunValue). (seat : ℕ) → false ≡ is_legal r (Take seat c.args.leaf)) c.self.view_is
    (λ seat. take_busy setup st seat c.args.leaf (λ l. sym (c.is_ready.ensures.ready setup.size st.pages k.shows.pages l) ∙ c.if-not-is_ready.true))

pub returns : goal.returns
returns c =
    let plan = c.self.inside.plan in
    let words = c.self.inside.journal.items in
    let b = c.self.inside.board in
    let k : IsKept plan (map entry_of words) b = c.self.invariant.0 in
    let setup = tree_setup plan in
    let st = replay (tree_setup plan) (map entry_of words) in
    let goes : c.goes_on.result ≡ goes_on setup st = subst (λ (r : RunValue). c.goes_on.result ≡ goes_on (setup_for r) (state_of r)) (sym c.self.view_is) c.goes_on.ensures in
    let l : c.args.leaf < setup.size = c.is_ready.ensures.inside setup.size st.pages k.shows.pages c.if-not-is_ready.false in
    subst (λ (r : RunValue). (seat : ℕ) → c.goes_on.result ≡ is_legal r (Take seat c.args.leaf)) c.self.view_is
    (λ seat. goes ∙ take_goes setup st seat c.args.leaf (sym (configured setup st b.net k.shows.net) ∙ sym c.configured.ensures ∙ c.if-not-configured.false) l
    (sym (c.is_ready.ensures.ready setup.size st.pages k.shows.pages l) ∙ c.if-not-is_ready.false))
