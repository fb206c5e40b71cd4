use Rattle.std.proofs.Common.{map, subst}
use Rattle.std.specs.Prelude.{IfSome, string_bytes}
use Rattle.pld_words.specs.Words.{IsInRange, command_of}
use Rattle.pld_program.proofs.Ran.{has_run}
use Rattle.pld_program.proofs.command.Goals as goal

pub returns : goal.returns
returns g c =
    has_run (command_of (map string_bytes c.as_slice-words.result.now)) _ _ _ (subst (λ r. IfSome r IsInRange) c.read_words-command.ensures.command c.read_words-command.ensures.range)
    c.pld.ensures.usage c.pld.ensures.nothing c.pld.ensures.done
