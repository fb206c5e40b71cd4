use Rattle.std.proofs.Common.{◌≡◌, ◌-◌, length, true}
use Rattle.fabric_run.specs.Replay.{IsPlain, none_out}
use Rattle.fabric_core.specs.Runs.{setup_for, state_of, room}
use Rattle.fabric_core.proofs.plain.run_plain.Given as goal

abbrev pub invariant-run : goal.invariant-run
invariant-run l = record {
  plan : l.fabric.plan ≡ l.initial.fabric.plan;
  plain : IsPlain (setup_for l.fabric) l.fabric.journal;
  home : none_out (setup_for l.fabric) (state_of l.fabric) ≡ true;
}

abbrev pub decreases-run : goal.decreases-run
decreases-run l = room l.fabric.plan - length l.fabric.journal
