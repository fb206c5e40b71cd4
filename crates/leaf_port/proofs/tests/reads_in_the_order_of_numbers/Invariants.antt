use Rattle.std.specs.Prelude.{IsSome}
use Rattle.leaf_port.specs.Leaf.{row_of}
use Rattle.leaf_port.proofs.Filling.{IsFilling}
use Rattle.leaf_port.proofs.tests.reads_in_the_order_of_numbers.Given as goal

abbrev pub invariant-loop-number : goal.invariant-loop-number
invariant-loop-number g l = IsFilling l.leaf l.number

abbrev pub invariant-loop-number-2 : goal.invariant-loop-number-2
invariant-loop-number-2 g l = IsSome (row_of l.leaf 8)
