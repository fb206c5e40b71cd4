use Rattle.fabric_keeps.proofs.Offering.{leaves_offer_so, under_inside}
use Rattle.fabric_keeps.proofs.calls.leaves_offer_so.Goals as goal

pub returns : goal.returns
returns g c = record {
  offers = λ setup st seat i sound carries m w l. leaves_offer_so setup st seat i sound carries m w l;
  inside = λ setup st sound w. under_inside setup sound st w.world;
}
