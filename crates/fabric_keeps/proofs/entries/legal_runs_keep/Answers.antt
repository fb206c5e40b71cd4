use Rattle.fabric_keeps.proofs.Legal.{run_whole}
use Rattle.fabric_keeps.proofs.entries.legal_runs_keep.Goals as goal

pub returns : goal.returns
returns g c = λ setup most journal sound w l. run_whole setup most journal sound w l
