use Rattle.leaf_port.proofs.Bits.{put_in}
use Rattle.leaf_port.proofs.masks.Mask.with.Goals as goal

pub returns : goal.returns
returns c = put_in c.args.self.bits c.args.i c.requires
