-- What a program has done, by whether its words are a command.
use Rattle.std.proofs.Common.{◌≡◌, ◌⊎◌, inl, inr, Option, Some, None, refl}
use Rattle.std.specs.Prelude.{◌↔◌, IfSome}
use Rattle.pld_words.specs.declared.Command.{Command}
use Rattle.pld_words.specs.Words.{IsInRange}
use Rattle.pld_driver.specs.Outcome.{Moment}
use Rattle.pld_driver.specs.declared.status.Status.{Status}
use Rattle.pld_driver.specs.declared.status.Status.TheVariants.{Usage}
use Rattle.fabric_core.specs.declared.fabric.Record.{Record}
use Rattle.pld_session.specs.Headline.{NothingHappened}
use Rattle.pld_session.specs.Commands.{IsDone}
use Rattle.pld_program.specs.Program.{HasRun}

pub has_run : (asked : Option Command) (before after : Moment Record) (status : Status) → IfSome asked IsInRange → (status ≡ Usage) ↔ (asked ≡ None) → (status ≡ Usage → NothingHappened before after)
    → ((command : Command) → asked ≡ Some command → IsDone command before after status) → HasRun before after status
has_run None before after status range usage nothing done = inr (nothing (usage.1 refl), inl (usage.1 refl))
has_run (Some command) before after status range usage nothing done = inl (command, range, done command refl)
