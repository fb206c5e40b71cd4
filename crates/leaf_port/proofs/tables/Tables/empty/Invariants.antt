use Rattle.std.proofs.Common.{◌≡◌, replicate, None}
use Rattle.leaf_port.proofs.tables.Tables.empty.Given as goal

abbrev pub invariant-loop-leaf : goal.invariant-loop-leaf
invariant-loop-leaf l = l.leaves.items ≡ replicate l._leaf (replicate 16 None)
