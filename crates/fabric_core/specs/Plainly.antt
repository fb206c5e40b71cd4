-- A step of `plain`.
use Rattle.std.specs.Prelude.{◌≡◌, ◌<◌, ◌≤◌, length, true}
use Rattle.fabric_run.specs.Replay.{IsPlain, none_out}
use Rattle.fabric_core.specs.Runs.{RunValue, setup_for, state_of, room}

-- more entries of `plain`, with no page out behind them
pub record IsNextPlain (run later : RunValue) : Type 0 where
  pub plan : later.plan ≡ run.plan
  pub plain : IsPlain (setup_for later) later.journal
  pub home : none_out (setup_for later) (state_of later) ≡ true
  pub longer : length run.journal < length later.journal
  pub within : length later.journal ≤ room later.plan
