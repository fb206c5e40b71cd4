use Rattle.std.proofs.Common.{◌≡◌, ap, List, ℕ, ◌≤◌, length, map, subst}
use Rattle.fabric_run.specs.Entries.{entry_of}
use Rattle.fabric_run.specs.Replay.{replay}
use Rattle.fabric_run.specs.Trees.{tree_setup}
use Rattle.fabric_pages.proofs.Counting.{journal_fits}
use Rattle.fabric_core.specs.Runs.{RunValue, room, words_of}
use Rattle.fabric_core.specs.Kept.{IsKept}
use Rattle.fabric_core.proofs.fabric.Fabric.is_legal.Goals as goal

pub returns-clause-room : goal.returns-clause-room
returns-clause-room c =
    let plan = c.self.inside.plan in
    let journal = map entry_of c.self.inside.journal.items in
    let k : IsKept plan journal c.self.inside.board = c.self.invariant.0 in
    let setup = tree_setup plan in
    subst (λ (r : RunValue). length r.journal ≤ room r.plan) c.self.view_is (journal_fits setup (length plan.pages) (length journal) (replay setup journal) k.counted)

pub returns-clause-words : goal.returns-clause-words
returns-clause-words c =
    subst (λ (r : RunValue). map entry_of (words_of r) ≡ r.journal) c.self.view_is (ap (λ (words : List ℕ). map entry_of words) c.self.invariant.1)
