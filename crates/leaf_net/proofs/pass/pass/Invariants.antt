use Rattle.leaf_net.specs.Passing.{before_round, HavePassed}
use Rattle.leaf_net.proofs.pass.pass.Given as goal

abbrev pub invariant-loop-leaf : goal.invariant-loop-leaf
invariant-loop-leaf l = HavePassed (before_round l.fn.way l.fn.leaves l.fn.entries l.fn.round.0) l.way l.leaves l.offers l.tally l.leaf
