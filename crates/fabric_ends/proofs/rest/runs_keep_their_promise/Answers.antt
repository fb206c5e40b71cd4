use Rattle.fabric_ends.proofs.Promised.{promise}
use Rattle.fabric_ends.proofs.rest.runs_keep_their_promise.Goals as goal

pub returns : goal.returns
returns g c = λ net plan operators most journal design well legal. promise net plan operators design most journal well legal
