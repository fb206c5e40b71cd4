use Rattle.std.proofs.Common.{◌≡◌, replicate}
use Rattle.leaf_port.specs.Ports.{fresh_in}
use Rattle.leaf_port.proofs.leaf.fresh_ins.Given as goal

abbrev pub invariant-loop-port : goal.invariant-loop-port
invariant-loop-port l = l.ins.items ≡ replicate l._port (fresh_in l.fn.window)
