-- What a session has done when it ends, told of the whole program.
use Rattle.std.specs.Prelude.{◌≡◌, ℕ, List, []}
use Rattle.pld_driver.specs.declared.engine.Bench.{Bench}
use Rattle.pld_driver.specs.declared.status.Status.{Status}
use Rattle.pld_driver.specs.Outcome.{Moment, Outcome}
use Rattle.fabric_core.specs.declared.fabric.Record.{Record}
use Rattle.pld_runner.specs.Orders.{Order}
use Rattle.pld_session.specs.States.{at_first}
use Rattle.pld_session.specs.Answers.{answer}
use Rattle.pld_session.specs.Runs.{FitsRun}

-- a bench as it is made: no permit was given out, and nothing has run
pub record IsFresh (bench : Bench Record) : Type 0 where
  pub permits : bench.permits ≡ 0
  pub records : bench.records.items ≡ []

-- A session whose runs' entries stand in this order, of so many rounds a run, ended so: what was written is the replies to the text that was taken, and each status has its cause.
abbrev pub SessionEnds : Order → ℕ → Moment Record → Moment Record → Status → Type 0
SessionEnds order rounds before after result = Outcome answer (FitsRun order) (at_first rounds) before after result

-- Nothing was asked of the source and of the sink, and nothing was spent or run.
pub record NothingHappened (before after : Moment Record) : Type 0 where
  pub source : after.source ≡ before.source
  pub sink : after.sink ≡ before.sink
  pub fresh : IsFresh after.bench
