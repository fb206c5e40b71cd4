use Rattle.fabric_ends.proofs.Plans.{sound_run}
use Rattle.fabric_ends.proofs.Wired.{pages_kahn, same_wiring}
use Rattle.fabric_ends.proofs.rest.plans_are_sound.Goals as goal

pub returns : goal.returns
returns g c = record {
  sound = λ net plan sound. sound_run net plan sound;
  wiring = λ net plan sound. same_wiring net plan sound;
  kahn = λ setup sound. pages_kahn setup sound;
}
