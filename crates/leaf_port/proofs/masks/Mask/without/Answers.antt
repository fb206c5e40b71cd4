use Rattle.leaf_port.proofs.Bits.{taken_out}
use Rattle.leaf_port.proofs.masks.Mask.without.Goals as goal

pub returns : goal.returns
returns c = taken_out c.args.self.bits c.args.i c.requires
