use Rattle.pld_link.proofs.Alike.{rows_same}
use Rattle.pld_link.proofs.laws.rows_follow_the_channels.Goals as goal

pub returns : goal.returns
returns c = rows_same
