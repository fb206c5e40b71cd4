-- What the commands of the program do.
use Rattle.std.specs.Prelude.{◌≡◌}
use Rattle.pld_words.specs.declared.Command.{Command}
use Rattle.pld_words.specs.declared.Command.TheVariants as command
use Rattle.pld_driver.specs.declared.status.Status.{Status}
use Rattle.pld_driver.specs.Outcome.{Moment}
use Rattle.fabric_core.specs.declared.fabric.Record.{Record}
use Rattle.pld_runner.specs.Orders.{Plain, Any}
use Rattle.pld_session.specs.Headline.{SessionEnds}
use Rattle.pld_session.specs.Large.{LargeEnds}

-- The command was done, and ended so: the session of the source's text, whose runs are made by one worker or by several; or the large one with a number, and nothing was asked of the source.
abbrev pub IsDone : Command → Moment Record → Moment Record → Status → Type 0
IsDone (command.Plain rounds) before after result = SessionEnds Plain rounds before after result
IsDone (command.Work workers rounds) before after result = SessionEnds Any rounds before after result
IsDone (command.Big number rounds) before after result = (after.source ≡ before.source) × LargeEnds rounds number before.sink after.sink before.bench after.bench result
