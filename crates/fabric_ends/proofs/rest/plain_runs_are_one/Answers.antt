use Rattle.fabric_ends.proofs.PlainRuns.{plain_one}
use Rattle.fabric_ends.proofs.rest.plain_runs_are_one.Goals as goal

pub returns : goal.returns
returns g c = λ setup journal other p o q r. plain_one setup journal other p o q r
