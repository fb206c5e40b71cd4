-- What holds as a run begins.
use Rattle.std.proofs.Common.{List, refl, ap}
use Rattle.std.specs.List.{count_by}
use Rattle.net_switch.specs.declared.packet.Packet.{Packet}
use Rattle.fabric_run.specs.World.{Setup, start, core_at}
use Rattle.fabric_keeps.specs.Facts.{is_light, is_new, Begins, Steady}
use Rattle.fabric_keeps.specs.Paths.{IsTraced}
use Rattle.fabric_keeps.specs.Links.{IsSound}
use Rattle.fabric_keeps.specs.Whole.{IsWhole}
use Rattle.fabric_keeps.proofs.Traced.{start_path}
use Rattle.fabric_keeps.proofs.Steady.{start_fine}
use Rattle.fabric_keeps.proofs.Configures.{start_configuring, world_of}

start_traced : {S : Type 0} (setup : Setup S) → IsTraced setup (start setup)
start_traced setup = record { pages = λ i. start_path (core_at setup i); nobody = λ k e. refl; inputs = λ k. record { rest = _; joined = refl }; outputs = λ j. refl }

pub start_steady : {S : Type 0} (setup : Setup S) → Begins setup → Steady setup (start setup)
start_steady setup b = record {
  back = λ i l. refl;
  page = λ i p e. start_fine (core_at setup i) p e;
  heavy = ap (λ (ps : List Packet). count_by is_light ps) b;
  stamped = ap (λ (ps : List Packet). count_by (is_new 0) ps) b;
}

pub start_whole : {S : Type 0} (setup : Setup S) → IsSound setup → Begins setup → IsWhole setup (start setup)
start_whole setup sound b = record {
  world = world_of setup (start setup) sound (start_configuring setup b);
  traced = start_traced setup;
  steady = start_steady setup b;
}
