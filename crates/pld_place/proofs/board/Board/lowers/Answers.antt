use Rattle.std.proofs.Common.{◌∙◌, ap}
use Rattle.pld_place.specs.Placing.{numbers}
use Rattle.pld_place.proofs.Boards.{two_rows_tell}
use Rattle.pld_place.proofs.board.Board.lowers.Goals as goal

pub returns : goal.returns
returns c =
    two_rows_tell c.args.self.now.channels c.args.self.now.leaves _ _ _ _ c.args.a c.args.b _ _ _ _ c.requires.first c.requires.order
    (ap numbers c.deref.ensures.value ∙ ap (λ v. v.leaves) c.self.view_is) (ap numbers c.deref-2.ensures.value ∙ ap (λ v. v.leaves) c.self.view_is)
    c.row.ensures.value c.row-2.ensures.value
    c.measure-at_a.ensures.after c.measure-at_b.ensures.after c.measure-at_a.ensures.before c.measure-at_b.ensures.before
