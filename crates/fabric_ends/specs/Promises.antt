-- What a run promises by what it shows, of a network of processes.
use Rattle.std.specs.Prelude.{◌≡◌, ℕ, ◌≢◌, ◌⊎◌, Option, Some, None}
use Rattle.pld_base.specs.Process.{Returned}
use Rattle.pld_base.specs.declared.event.Side.{Side}
use Rattle.pld_base.specs.declared.event.Side.TheVariants.{In, Out}
use Rattle.pld_base.specs.Channels.{Node, OperatorNode, OutputNode, Family, KeepsWindow, AfterEach}
use Rattle.pld_kahn.specs.Network.{Network}
use Rattle.pld_kahn.specs.Kahn.{BeginsStream, IsWholeStream}
use Rattle.pld_kahn.specs.Rest.{FollowsTraces, IsReached, IsRestFamily, HasEnded, IsAtEmpty, IsAtFull}
use Rattle.fabric_run.specs.declared.row.Outcome.TheVariants.{Done, Stalled, Spent}
use Rattle.fabric_run.specs.declared.row.Blocked.{Blocked}
use Rattle.fabric_run.specs.World.{Setup, State}
use Rattle.fabric_run.specs.Shown.{Shown, shown, events_of}

-- the run is over, and not for want of rounds
abbrev pub HasRested : Shown → Type 0
HasRested s = (s.outcome ≡ Some Done) ⊎ (s.outcome ≡ Some Stalled)

abbrev pub IsRested : {S : Type 0} → Setup S → State S → Type 0
IsRested setup st = HasRested (shown setup st)

abbrev pub StandsAtSide : ℕ → Network → Family → ℕ → Side → ℕ → Type 0
StandsAtSide window network events k In port = IsAtEmpty network events (OperatorNode k) port
StandsAtSide window network events k Out port = IsAtFull window network events (OperatorNode k) port

-- the operator has returned, or stands at the named port, which is empty or full
abbrev pub StandsWhere : ℕ → Network → Family → ℕ → Option Blocked → Type 0
StandsWhere window network events k None = HasEnded network events (OperatorNode k) Returned
StandsWhere window network events k (Some at) = StandsAtSide window network events k at.side at.port.0

abbrev pub NamesNoFullPort : Shown → Type 0
NamesNoFullPort s = (k : ℕ) (at : Blocked) → s.port k ≡ Some at → at.side ≢ Out

-- at each moment: every channel has kept its window after every single event, the events are those of the processes, and each output's words begin
-- its Kahn stream
pub record KeepsStreams (window : ℕ) (network : Network) (s : Shown) : Type 0 where
  pub windows : AfterEach (KeepsWindow window network.wiring) s.history
  pub traces : FollowsTraces network (events_of s)
  pub reached : IsReached window network (events_of s)
  pub begins : (k : ℕ) → BeginsStream network (OutputNode k) 0 (s.words k)

-- at rest: it is the network's rest family, and each operator has returned or stands at the port that is named, which is empty or full
pub record IsAtItsRest (window : ℕ) (network : Network) (s : Shown) : Type 0 where
  pub rests : IsRestFamily window network (events_of s)
  pub ports : (k : ℕ) → StandsWhere window network (events_of s) k (s.port k)

pub record KeepsPromise (allowed window : ℕ) (network : Network) (s : Shown) : Type 0 where
  pub streams : KeepsStreams window network s
  pub rest : HasRested s → IsAtItsRest window network s
  -- done: each output has its whole Kahn stream
  pub done : s.outcome ≡ Some Done → (k : ℕ) → IsWholeStream network (OutputNode k) 0 (s.words k)
  -- stalled: so it is where no full port is named
  pub stalled : s.outcome ≡ Some Stalled → NamesNoFullPort s → (k : ℕ) → IsWholeStream network (OutputNode k) 0 (s.words k)
  -- spent: every allowed round was made
  pub spent : s.outcome ≡ Some Spent → s.rounds ≡ allowed

-- two runs show the same events of each node, the same outcome, ports and words; the order of events and the rounds may differ
pub record ShowSame (a b : Shown) : Type 0 where
  pub events : (node : Node) → events_of a node ≡ events_of b node
  pub ends : a.outcome ≡ b.outcome
  pub ports : (k : ℕ) → a.port k ≡ b.port k
  pub outs : (k : ℕ) → a.words k ≡ b.words k
