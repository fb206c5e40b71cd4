use Rattle.fabric_keeps.proofs.Accounting.{round_accounted}
use Rattle.fabric_keeps.proofs.leaves.accounts_go_on.Goals as goal

pub returns : goal.returns
returns c = λ window tables size round old new arrival kept before after h came goes is a. round_accounted window tables size round old new arrival kept before after h came goes is a
