use Rattle.fabric_plan.proofs.Left.{held, left}
use Rattle.fabric_plan.proofs.laws.rows_are_the_tables.Goals as goal

pub returns : goal.returns
returns c = record {
  held = λ plan journal leaf slot sound legal over few. held plan sound journal legal over leaf slot few;
  left = λ plan journal leaf slot sound legal over. left plan sound journal legal over leaf slot;
}
