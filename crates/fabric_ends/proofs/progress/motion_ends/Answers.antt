use Rattle.fabric_ends.proofs.Enough.{spent_early}
use Rattle.fabric_ends.proofs.progress.motion_ends.Goals as goal

pub returns : goal.returns
returns g c = λ setup most es rest limit sound w l some kahn family ends moving. spent_early setup most es rest limit sound w l some kahn family ends moving
