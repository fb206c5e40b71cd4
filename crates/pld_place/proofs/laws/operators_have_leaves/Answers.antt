use Rattle.pld_place.proofs.Placed.{is_placed}
use Rattle.pld_place.proofs.laws.operators_have_leaves.Goals as goal

pub returns : goal.returns
returns c = is_placed
