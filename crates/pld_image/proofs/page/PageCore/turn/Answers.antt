use Rattle.std.proofs.Common.{sym, ap, ◌∙◌, subst}
use Rattle.pld_image.specs.Cores.{core_of, turned, turn_end, steps}
use Rattle.pld_image.specs.Standing.{StandsAt}
use Rattle.pld_image.specs.Steps.{page_meaning, turn_of}
use Rattle.pld_image.proofs.Meaning.{turned_as}
use Rattle.pld_image.proofs.Advancing.{turn_is}
use Rattle.pld_image.proofs.page.PageCore.turn.Goals as goal

pub returns-clause-end : goal.returns-clause-end
unfolding turn_end steps
returns-clause-end c =
    let at = core_of c.args.self.now in
    c.turn_of.ensures ∙ ap turn_of c.advance.ensures.end ∙ ap (λ t. t.end) (sym (turn_is page_meaning 256 at)) ∙ ap (λ t. t.end) (turned_as 256 at)

pub returns-clause-core : goal.returns-clause-core
unfolding turned steps
returns-clause-core c =
    let at = core_of c.args.self.now in
    c.advance.ensures.state ∙ ap (λ t. t.core) (sym (turn_is page_meaning 256 at)) ∙ ap (λ t. t.core) (turned_as 256 at)

pub returns-clause-stands : goal.returns-clause-stands
returns-clause-stands c =
    let at = core_of c.args.self.now in
    subst (λ x. StandsAt x c.turn_of.result) (sym (returns-clause-core c)) (subst (StandsAt (turned at)) (sym (returns-clause-end c)) (c.turns_are_steps.ensures.stands at))
