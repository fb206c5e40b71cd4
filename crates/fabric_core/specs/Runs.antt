-- What contracts see of a run: what it is given, and its journal. Its state is what the journal stands for.
use Rattle.std.specs.Prelude.{ℕ, ◌+◌, ◌*◌, Bool, List, [], ◌∷◌, ◌++◌, length, map}
use Rattle.net_tree.specs.Links.{Links}
use Rattle.fabric_run.specs.declared.entry.Entry.{Entry}
use Rattle.fabric_run.specs.Entries.{stored}
use Rattle.fabric_run.specs.Plan.{PlanValue}
use Rattle.fabric_run.specs.World.{Setup, State}
use Rattle.fabric_run.specs.Replay.{may, replay}
use Rattle.fabric_run.specs.Trees.{tree_setup}

pub record RunValue : Type 0 where
  pub plan : PlanValue
  pub journal : List Entry

abbrev pub setup_for : RunValue → Setup Links
setup_for run = tree_setup run.plan

abbrev pub state_of : RunValue → State Links
state_of run = replay (setup_for run) run.journal

-- whether an entry is legal now
abbrev pub is_legal : RunValue → Entry → Bool
is_legal run e = may (setup_for run) (state_of run) e

-- the run with one entry more
abbrev pub noted : RunValue → Entry → RunValue
noted run e = record run { journal = run.journal ++ e ∷ [] }

-- the journal as it is stored
abbrev pub words_of : RunValue → List ℕ
words_of run = map stored run.journal

-- the entries for which there is room: a round has at most four Takes and four Gives of each page, and its Net
abbrev pub room : PlanValue → ℕ
room plan = plan.rounds * (8 * length plan.pages + 1)
