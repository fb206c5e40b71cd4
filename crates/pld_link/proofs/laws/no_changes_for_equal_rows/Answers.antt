use Rattle.pld_link.proofs.Changed.{equal_there, none_where_equal}
use Rattle.pld_link.proofs.laws.no_changes_for_equal_rows.Goals as goal

pub returns : goal.returns
returns c = record {
  equal = equal_there;
  none = none_where_equal;
}
