use Rattle.fabric_keeps.proofs.Whole.{whole_keeps}
use Rattle.fabric_keeps.proofs.Starting.{start_whole}
use Rattle.fabric_keeps.proofs.entries.each_entry_keeps.Goals as goal

pub returns : goal.returns
returns g c = record {
  begins = λ setup sound b. start_whole setup sound b;
  keeps = λ setup st e sound carries m w. whole_keeps setup st e sound carries m w;
}
