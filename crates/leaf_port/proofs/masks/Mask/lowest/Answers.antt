use Rattle.std.proofs.Common.{arith}
use Rattle.leaf_port.proofs.Bits.{lowest_bit}
use Rattle.leaf_port.proofs.masks.Mask.lowest.Goals as goal

pub returns-else-self-eq0 : goal.returns-else-self-eq0
returns-else-self-eq0 c = lowest_bit c.args.self.bits (omega arith) (omega arith)
