use Rattle.std.proofs.Common.{◌+◌, arith}
use Rattle.leaf_port.specs.Leaf.{accepted}
use Rattle.leaf_port.proofs.Filling.{IsFilling, filling_next, unread}
use Rattle.leaf_port.proofs.tests.reads_in_the_order_of_numbers.Goals as goal

pub loop-number-preserved : goal.loop-number-preserved
loop-number-preserved g c =
    let next : IsFilling (accepted c.loop-number.leaf c.word.result) (c.loop-number.number + 1) = filling_next c.loop-number.leaf c.loop-number.number _ c.word.result c.loop-number.invariant (omega (arith, c.loop-number.auto)) (omega (arith, c.loop-number-test.true)) c.word.ensures.to c.word.ensures.body in
    let come : IsFilling c.accept.new.self (c.loop-number.number + 1) = rw c.accept.ensures next in
    unread c.accept.new.self c.read.new.self (c.loop-number.number + 1) come c.read.ensures.state
