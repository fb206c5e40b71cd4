use Rattle.std.proofs.Common.{replicate}
use Rattle.leaf_port.proofs.Slots.{fresh_is}
use Rattle.leaf_port.proofs.ports.InPort.new.Goals as goal

pub returns : goal.returns
returns c = fresh_is c.empty.result.bits (replicate 64 0) c.args.window c.empty.ensures
