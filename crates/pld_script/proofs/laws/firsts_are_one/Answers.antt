use Rattle.pld_script.proofs.Passing.{one_first}
use Rattle.pld_script.proofs.laws.firsts_are_one.Goals as goal

pub returns : goal.returns
returns c = one_first
