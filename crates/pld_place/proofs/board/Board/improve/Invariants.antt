use Rattle.std.proofs.Common.{◌≡◌, ◌-◌}
use Rattle.pld_place.specs.Exchanges.{improved}
use Rattle.pld_place.proofs.board.Board.improve.Given as goal

abbrev pub invariant-loop-k : goal.invariant-loop-k
invariant-loop-k l =
    (l.self.channels ≡ l.initial.self.channels) × (l.self.last ≡ l.initial.self.last)
    × (improved l.self.channels l.movable (l.most - l._k) l.self.leaves ≡ improved l.initial.self.channels l.movable l.most l.initial.self.leaves)
