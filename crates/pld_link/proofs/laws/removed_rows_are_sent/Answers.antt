use Rattle.pld_link.proofs.Changed.{removed_there}
use Rattle.pld_link.proofs.laws.removed_rows_are_sent.Goals as goal

pub returns : goal.returns
returns c = removed_there
