use Rattle.pld_check.proofs.Parts.{filled_told}
use Rattle.pld_check.proofs.checked.+are_filled.Goals as goal

pub returns-in-len1-up : goal.returns-in-len1-up
returns-in-len1-up t c = filled_told _ _ _ c.args.arrays.now _ c.in-len1-up.len_at_least c.first-item.is c.both.ensures c.is_filled.ensures c.are_filled.ensures
