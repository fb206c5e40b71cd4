use Rattle.std.proofs.Common.{◌∙◌, ap, sym, subst}
use Rattle.pld_place.specs.Placing.{pinned_leaves, first_leaves, movable_among}
use Rattle.pld_place.specs.Touching.{AreAscending}
use Rattle.pld_place.proofs.Ascending.{ascends}
use Rattle.pld_place.proofs.Placed.{placement_is, few_channels}
use Rattle.pld_place.proofs.placement.place_all.Goals as goal

pub new-requires-clause-few : goal.new-requires-clause-few
new-requires-clause-few c = few_channels c.args.g.now _ c.requires.sound c.in_ok-ends_of.ensures

pub improve-requires : goal.improve-requires
improve-requires c =
    subst (λ l. AreAscending l c.deref-4.result.now) (sym (ap (λ b. b.last) c.in_ok-board.ensures))
    (ascends c.args.last _ _ (c.deref-4.ensures.value ∙ c.in_ok-movable.ensures))

pub returns : goal.returns
returns c =
    placement_is c.args.g.now c.in_ok-board.board.channels c.deref-4.result.now c.in_ok-board.board.leaves _
    (ap (λ b. b.channels) c.in_ok-board.ensures ∙ c.in_ok-ends_of.ensures)
    (c.deref-4.ensures.value ∙ c.in_ok-movable.ensures
    ∙ (λ i. movable_among ((c.deref-2.ensures.value ∙ c.in_ok-pinned.ensures ∙ ap pinned_leaves (c.deref.ensures.value ∙ c.in_ok-pins.ensures)) i) (c.requires.last i)))
    (ap (λ b. b.leaves) c.in_ok-board.ensures ∙ c.in_ok-first.ensures ∙ ap first_leaves (c.deref-3.ensures.value ∙ c.in_ok-pins.ensures))
    (c.into_leaves.ensures ∙ ap (λ b. b.leaves) c.improve.ensures)
