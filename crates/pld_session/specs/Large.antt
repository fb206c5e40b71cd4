-- How a large session ends: its text is made by the program, and one line is written about its one run.
use Rattle.std.specs.Prelude.{◌≡◌, ◌⊎◌, ℕ, false, List, [], ◌∷◌, Some, IsSome}
use Rattle.pld_io.specs.Outside.{SourceState, SinkState, Accepts}
use Rattle.pld_script.specs.Chain.{script_of}
use Rattle.pld_driver.specs.declared.engine.Bench.{Bench}
use Rattle.pld_driver.specs.declared.status.Status.{Status}
use Rattle.pld_driver.specs.declared.status.Status.TheVariants.{Fine, SomeRefused, Usage, ReadFault, WriteFault, NoMemory, TooLong}
use Rattle.pld_driver.specs.Outcome.{moment_of, WritesPart}
use Rattle.fabric_run.specs.Replay.{outcome, IsPlain}
use Rattle.fabric_run.specs.Trees.{tree_setup}
use Rattle.fabric_core.specs.declared.fabric.Record.{Record}
use Rattle.pld_reply.specs.Summary.{summary}
use Rattle.pld_runner.specs.Orders.{Plain}
use Rattle.pld_session.specs.Runs.{end_of, shown_by}
use Rattle.pld_session.specs.Headline.{SessionEnds}

-- a source that holds a text, and a sink that holds nothing

abbrev pub holding_text : List ℕ → SourceState
holding_text text = record { given = []; ended = false; failed = false; remaining = Some text; faults = 0 }

abbrev pub holding_nothing : SinkState
holding_nothing = record { put = []; failed = false; written = Some []; faults = 0 }

-- The session of this text ended so, with this bench before it, and with so many permits and these records behind it.
pub record TextSession (rounds : ℕ) (text : List ℕ) (before : Bench Record) (permits : ℕ) (records : List Record) (status : Status) : Type 0 where
  pub source : SourceState
  pub sink : SinkState
  pub bench : Bench Record
  pub ends : SessionEnds Plain rounds (moment_of (holding_text text) holding_nothing before) (moment_of source sink bench) status
  pub spent : bench.permits ≡ permits
  pub left : bench.records.items ≡ records

-- It was Fine, it made one run, and this is the line about it.
pub record IsSummed (rounds number : ℕ) (before after : Bench Record) (line : List ℕ) : Type 0 where
  pub run : Record
  pub one : after.records.items ≡ run ∷ []
  pub session : TextSession rounds (script_of number) before after.permits (run ∷ []) Fine
  pub says : line ≡ summary number after.permits (shown_by run)

-- Memory was wanting before that session, in it, or behind it.
abbrev pub IsBroken : ℕ → ℕ → Bench Record → Bench Record → Type 0
IsBroken rounds number before after =
    (after.permits ≡ before.permits) ⊎ ((status : Status) × (records : List Record) × TextSession rounds (script_of number) before after.permits records status)

-- What was written, and what is left: the line is written; or a part of it that isn't all, and then the sink failed; or nothing.
abbrev pub LargeEnds : ℕ → ℕ → SinkState → SinkState → Bench Record → Bench Record → Status → Type 0
LargeEnds rounds number old new before after Fine = (line : List ℕ) × IsSummed rounds number before after line × Accepts old new line
LargeEnds rounds number old new before after WriteFault = (line : List ℕ) × IsSummed rounds number before after line × WritesPart old new line
LargeEnds rounds number old new before after NoMemory = Accepts old new [] × IsBroken rounds number before after
LargeEnds rounds number old new before after SomeRefused = ⊥
LargeEnds rounds number old new before after Usage = ⊥
LargeEnds rounds number old new before after ReadFault = ⊥
LargeEnds rounds number old new before after TooLong = ⊥

-- the record is that of a whole run of one worker
pub record IsPlainRun (run : Record) : Type 0 where
  pub plain : IsPlain (tree_setup run.plan) run.journal
  pub over : IsSome (outcome (tree_setup run.plan) (end_of run))
