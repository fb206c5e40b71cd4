use Rattle.fabric_ends.proofs.Spending.{spent_is_early}
use Rattle.fabric_ends.proofs.bound.spent_is_early.Goals as goal

pub returns : goal.returns
returns g c = λ net plan operators most journal rest limit design well legal some family ends spent. spent_is_early net plan operators design most journal rest limit well legal some family ends spent
