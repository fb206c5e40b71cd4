use Rattle.fabric_keeps.proofs.Stamps.{start_stamps, entry_stamps}
use Rattle.fabric_keeps.proofs.calls.stamps_differ.Goals as goal

pub returns : goal.returns
returns g c = record {
  begins = λ setup s b. start_stamps setup b s;
  keeps = λ setup st e sound carries m w h s. entry_stamps setup st e sound carries m w h s;
}
