use Rattle.fabric_ends.proofs.Stillness.{still_stays}
use Rattle.fabric_ends.proofs.progress.still_for_ever.Goals as goal

pub returns : goal.returns
returns g c = λ setup most st e some f m s. still_stays setup most st e some f m s
