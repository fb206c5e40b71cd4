use Rattle.fabric_ends.proofs.PlainRuns.{plain_legal}
use Rattle.fabric_ends.proofs.rest.plain_is_legal.Goals as goal

pub returns : goal.returns
returns g c = λ setup journal p. plain_legal setup journal p
