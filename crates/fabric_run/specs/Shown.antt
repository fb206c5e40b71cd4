-- What a run shows.
use Rattle.std.specs.Prelude.{ℕ, List, Option}
use Rattle.pld_base.specs.Channels.{NodeEvent, Family, family_of}
use Rattle.fabric_run.specs.declared.row.Outcome.{Outcome}
use Rattle.fabric_run.specs.declared.row.Blocked.{Blocked}
use Rattle.fabric_run.specs.World.{Setup, State, out_at}
use Rattle.fabric_run.specs.Replay.{outcome, blocked}

-- How the run is over, if it is; the port at which the k-th operator stands, if it stands at one; the words that the k-th output has read; how many
-- rounds were made; and the events, of which the newest stands first.
pub record Shown : Type 0 where
  pub outcome : Option Outcome
  pub port : ℕ → Option Blocked
  pub words : ℕ → List ℕ
  pub rounds : ℕ
  pub history : List NodeEvent

abbrev pub shown : {S : Type 0} → Setup S → State S → Shown
shown setup st = record { outcome = outcome setup st; port = blocked setup st; words = out_at st; rounds = st.rounds; history = st.history }

-- the events of each node
abbrev pub events_of : Shown → Family
events_of s = family_of s.history
