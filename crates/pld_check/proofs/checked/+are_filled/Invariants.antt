use Rattle.std.proofs.Common.{length}
use Rattle.pld_check.proofs.checked.+are_filled.Given as goal

abbrev pub decreases-are_filled : goal.decreases-are_filled
decreases-are_filled l = length l.arrays.now
