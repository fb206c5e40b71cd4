use Rattle.std.proofs.Common.{◌≡◌, drop}
use Rattle.pld_place.specs.Exchanges.{partner}
use Rattle.pld_place.proofs.board.Board.partner.Given as goal

abbrev pub invariant-loop-b : goal.invariant-loop-b
invariant-loop-b l = partner l.self.channels l.self.leaves l.a (drop l.b-index l.others) ≡ partner l.self.channels l.self.leaves l.a l.others
