use Rattle.fabric_keeps.proofs.PagesOut.{entry_holds, run_holds}
use Rattle.fabric_keeps.proofs.calls.pages_out_stay.Goals as goal

pub returns : goal.returns
returns g c = record {
  entry = λ setup st e seat leaf p m n h. entry_holds setup st e seat leaf p m n h;
  journal = λ setup st es seat leaf p l n h. run_holds setup st es seat leaf p l n h;
}
