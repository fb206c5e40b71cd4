use Rattle.std.proofs.Common.{◌/◌, ◌%◌}
use Rattle.fabric_core.specs.Runs.{setup_for, state_of}
use Rattle.fabric_plan.specs.Standing.{standing_row}
use Rattle.fabric_plan.proofs.Left.{AreDown}
use Rattle.fabric_plan.proofs.standing.leave_rows.Given as goal

abbrev pub invariant-loop-n : goal.invariant-loop-n
invariant-loop-n l = AreDown (λ n. standing_row (setup_for l.fabric) (state_of l.fabric) (n / 16) (n % 16)) l.n l.rows.items
