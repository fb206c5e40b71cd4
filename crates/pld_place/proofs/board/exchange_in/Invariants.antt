use Rattle.std.proofs.Common.{◌≡◌, length}
use Rattle.pld_place.specs.Placing.{numbers}
use Rattle.pld_place.proofs.Steps.{half}
use Rattle.pld_place.proofs.board.exchange_in.Given as goal

abbrev pub invariant-loop-k : goal.invariant-loop-k
invariant-loop-k l = (length l.leaves.items ≡ length l.initial.leaves.items) × (numbers l.leaves.items ≡ half l.a l.b (numbers l.initial.leaves.items) l.k)
