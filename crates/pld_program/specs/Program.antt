-- What the program does.
use Rattle.std.specs.Prelude.{◌≡◌, ◌⊎◌, ℕ}
use Rattle.pld_io.specs.Outside.{SinkState}
use Rattle.pld_driver.specs.Outcome.{Moment}
use Rattle.pld_driver.specs.Statuses.{number_of}
use Rattle.pld_driver.specs.declared.status.Status.{Status}
use Rattle.pld_driver.specs.declared.status.Status.TheVariants.{Usage, NoMemory}
use Rattle.fabric_core.specs.declared.fabric.Record.{Record}
use Rattle.pld_words.specs.declared.Command.{Command}
use Rattle.pld_words.specs.Words.{IsInRange}
use Rattle.pld_session.specs.Headline.{NothingHappened}
use Rattle.pld_session.specs.Commands.{IsDone}
use Rattle.pld_program.specs.Lines.{line_of, PutsLine}

-- A command was done. Or there were no words of one, or no memory for them, and nothing was done.
abbrev pub HasRun : Moment Record → Moment Record → Status → Type 0
HasRun before after status = ((command : Command) × IsInRange command × IsDone command before after status) ⊎ (NothingHappened before after × ((status ≡ Usage) ⊎ (status ≡ NoMemory)))

-- The exit status tells how that ended, and so does standard error.
pub record ProgramEnds (before after : Moment Record) (errors_old errors_new : SinkState) (code : ℕ) : Type 0 where
  pub status : Status
  pub number : code ≡ number_of status
  pub run : HasRun before after status
  pub line : PutsLine errors_old errors_new (line_of status)
