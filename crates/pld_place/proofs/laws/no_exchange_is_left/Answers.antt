use Rattle.pld_place.proofs.Placed.{none_left}
use Rattle.pld_place.proofs.laws.no_exchange_is_left.Goals as goal

pub returns : goal.returns
returns c = none_left
