use Rattle.std.proofs.Common.{◌≡◌, drop}
use Rattle.pld_place.specs.Exchanges.{first_pair}
use Rattle.pld_place.proofs.board.Board.first_pair.Given as goal

abbrev pub invariant-loop-k : goal.invariant-loop-k
invariant-loop-k l = first_pair l.self.channels l.self.leaves (drop l.k l.movable) ≡ first_pair l.self.channels l.self.leaves l.movable
