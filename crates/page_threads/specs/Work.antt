-- What workers do to a run.
use Rattle.std.specs.Prelude.{◌≡◌, ℕ, ◌<◌, List, [], ◌∷◌, ◌++◌, length, take, map, None, IsSome}
use Rattle.fabric_lock.specs.History.{seat_of}
use Rattle.fabric_run.specs.declared.entry.Entry.{Entry}
use Rattle.fabric_run.specs.Entries.{entry_of}
use Rattle.fabric_run.specs.Plan.{PlanValue}
use Rattle.fabric_run.specs.Replay.{replay, outcome, IsLegal}
use Rattle.fabric_run.specs.Trees.{tree_setup}
use Rattle.fabric_core.specs.Runs.{RunValue}

-- the history has one entry more, of this seat
abbrev pub IsNoted : ℕ → List ℕ → List ℕ → Type 0
IsNoted seat old new = (entry : ℕ) × (new ≡ old ++ entry ∷ []) × (seat_of entry ≡ seat)

-- a legal journal whose end is over, and no state before it is
pub record EndsOver (plan : PlanValue) (journal : List Entry) : Type 0 where
  pub is_legal : IsLegal (tree_setup plan) journal
  pub is_over : IsSome (outcome (tree_setup plan) (replay (tree_setup plan) journal))
  pub first : (k : ℕ) → k < length journal → outcome (tree_setup plan) (replay (tree_setup plan) (take k journal)) ≡ None

-- the run with these words as its journal
abbrev pub run_by : PlanValue → List ℕ → RunValue
run_by plan words = record { plan = plan; journal = map entry_of words }
