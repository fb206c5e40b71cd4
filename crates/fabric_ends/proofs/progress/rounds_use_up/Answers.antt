use Rattle.fabric_ends.proofs.Reach.{window_uses}
use Rattle.fabric_ends.proofs.progress.rounds_use_up.Goals as goal

pub returns : goal.returns
returns g c = λ setup most es fs w l m some r. window_uses setup most es fs w l m some r
