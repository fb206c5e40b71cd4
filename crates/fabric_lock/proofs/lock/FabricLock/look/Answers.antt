use Rattle.std.proofs.Common.{rules}
use Rattle.fabric_lock.proofs.Moves.{looks}
use Rattle.fabric_lock.proofs.lock.FabricLock.look.Goals as goal

pub load-requires : goal.load-requires
load-requires g c = (c.requires.lock.0, search rules, looks _ _ _ _ _ _ _ c.requires.free)
