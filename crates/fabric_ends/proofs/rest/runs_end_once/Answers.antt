use Rattle.fabric_ends.proofs.Once.{ends_once}
use Rattle.fabric_ends.proofs.rest.runs_end_once.Goals as goal

pub returns : goal.returns
returns g c = λ setup front rest e legal. ends_once setup front rest e legal
