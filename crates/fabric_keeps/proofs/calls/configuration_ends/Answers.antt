use Rattle.fabric_keeps.proofs.Configured.{round_count, running_of, slots_stand, nothing_before, stays_configured}
use Rattle.fabric_keeps.proofs.calls.configuration_ends.Goals as goal

pub returns : goal.returns
returns g c = record {
  slots = λ setup st i slot w l m. slots_stand setup st w.world i slot l m;
  before = λ setup st w busy. nothing_before setup st w.world busy;
  over = λ setup st i slot sound w over l. ((running_of setup st sound w.world over).leaf i l).rows slot;
  stays = λ setup st e sound carries m w over. stays_configured setup st e sound carries m w over;
  count = λ setup st sound w carries. round_count setup st sound w carries;
}
