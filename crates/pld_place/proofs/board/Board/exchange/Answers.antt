use Rattle.pld_place.proofs.Boards.{board_moved}
use Rattle.pld_place.proofs.board.Board.exchange.Goals as goal

pub invariant_of-self : goal.invariant_of-self
invariant_of-self c =
    board_moved (λ row. row.items) _ c.args.self.now c.self.inside.touching.items c.swap.new.self.items _ c.args.a c.args.b c.self.view_is c.self.invariant
    c.requires.first c.requires.order c.requires.most c.exchange_in.ensures c.swap.ensures.items
