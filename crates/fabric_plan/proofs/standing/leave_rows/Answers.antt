use Rattle.std.proofs.Common.{◌≡◌, ◌/◌, ◌%◌, refl, sym, subst}
use Rattle.fabric_core.specs.Runs.{setup_for, state_of}
use Rattle.fabric_plan.specs.Standing.{standing_row, standing_rows, AreStanding}
use Rattle.fabric_plan.proofs.Left.{all_down, left_stand}
use Rattle.fabric_plan.proofs.standing.leave_rows.Goals as goal

pub returns : goal.returns
returns c =
    let run = c.args.fabric.now in
    let down : c.loop-n.rows.items ≡ standing_rows (setup_for run) (state_of run) =
    all_down (λ n. standing_row (setup_for run) (state_of run) (n / 16) (n % 16)) c.loop-n.n c.loop-n.rows.items c.loop-n-test.false c.loop-n.invariant in
    record {
      rows = down;
      stand = subst (λ rows. AreStanding run.plan.depth rows) (sym down) (left_stand (setup_for run) (state_of run) run.plan.depth refl);
    }
