use Rattle.std.proofs.Common.{refl, arith}
use Rattle.std.proofs.lemmas.Nat.{or_lt}
use Rattle.pld_graph.proofs.Masks.{set_one}
use Rattle.pld_graph.proofs.operators.with_leaf.Goals as goal

pub returns-clause-bits : goal.returns-clause-bits
returns-clause-bits c l = set_one c.args.pinned c.args.leaf l _ refl c.requires

pub returns-clause-small : goal.returns-clause-small
returns-clause-small c = or_lt 64 _ _ c.ranges.pinned.fits (omega arith)
