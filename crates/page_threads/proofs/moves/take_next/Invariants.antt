use Rattle.std.proofs.Common.{◌≡◌}
use Rattle.page_threads.proofs.moves.take_next.Given as goal

abbrev pub invariant-loop-leaf : goal.invariant-loop-leaf
invariant-loop-leaf l = l.fabric ≡ l.initial.fabric
