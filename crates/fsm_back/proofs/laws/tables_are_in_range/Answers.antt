use Rattle.fsm_back.proofs.Ranges.{table_in_range}
use Rattle.fsm_back.proofs.laws.tables_are_in_range.Goals as goal

pub returns : goal.returns
returns c = table_in_range
