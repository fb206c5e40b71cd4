-- What holds between entries, in one.
use Rattle.std.specs.Prelude.{◌≡◌, false}
use Rattle.fabric_run.specs.World.{Setup, State, is_configured}
use Rattle.fabric_keeps.specs.Facts.{Steady}
use Rattle.fabric_keeps.specs.Links.{IsRunning}
use Rattle.fabric_keeps.specs.Paths.{IsTraced}
use Rattle.fabric_keeps.specs.Configuring.{IsConfiguring}

-- entries are on their way, or the new rows stand
pub data IsWorld {S : Type 0} (setup : Setup S) (st : State S) : Type 0 where
  Configuring : is_configured setup st ≡ false → IsConfiguring setup st → IsWorld setup st
  Running : IsRunning setup st → IsWorld setup st

pub record IsWhole {S : Type 0} (setup : Setup S) (st : State S) : Type 0 where
  pub world : IsWorld setup st
  pub traced : IsTraced setup st
  pub steady : Steady setup st
