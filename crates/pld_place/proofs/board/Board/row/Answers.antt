use Rattle.pld_place.proofs.Boards.{row_few}
use Rattle.pld_place.proofs.board.Board.row.Goals as goal

pub returns-clause-few : goal.returns-clause-few
returns-clause-few c = row_few (λ row. row.items) _ c.args.self.now c.self.inside.touching.items c.index.result.now _ c.args.leaf c.self.view_is c.self.invariant c.requires c.index.ensures c.deref.ensures.value
