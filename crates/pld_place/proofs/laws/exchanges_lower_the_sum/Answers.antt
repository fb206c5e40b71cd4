use Rattle.pld_place.proofs.Placed.{each_lowers}
use Rattle.pld_place.proofs.laws.exchanges_lower_the_sum.Goals as goal

pub returns : goal.returns
returns c = each_lowers
