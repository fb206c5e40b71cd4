use Rattle.pld_link.proofs.Filling.{rows_at, rows_length}
use Rattle.pld_link.proofs.laws.rows_stand_in_order.Goals as goal

pub returns : goal.returns
returns c = record {
  each = rows_at;
  all = rows_length;
}
