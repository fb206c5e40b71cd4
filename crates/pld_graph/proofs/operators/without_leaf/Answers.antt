use Rattle.std.proofs.Common.{refl}
use Rattle.pld_graph.proofs.Masks.{clear_one}
use Rattle.pld_graph.proofs.operators.without_leaf.Goals as goal

pub returns-clause-bits : goal.returns-clause-bits
returns-clause-bits c l = clear_one c.args.pinned c.args.leaf l _ refl c.requires c.ranges.pinned.fits
