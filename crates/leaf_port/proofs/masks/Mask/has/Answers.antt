use Rattle.leaf_port.proofs.Bits.{has_told}
use Rattle.leaf_port.proofs.masks.Mask.has.Goals as goal

pub returns : goal.returns
returns c = has_told c.args.self.bits c.args.i
