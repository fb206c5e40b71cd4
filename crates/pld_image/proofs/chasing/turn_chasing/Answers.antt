use Rattle.std.proofs.Common.{sym, ap, ◌∙◌, subst}
use Rattle.hot_swap.specs.Chase.{seen, chasing}
use Rattle.pld_image.specs.Cores.{core_of, steps}
use Rattle.pld_image.specs.Steps.{ChasingStandsAt, page_meaning, turn_of, turned_chasing, chasing_end}
use Rattle.pld_image.proofs.Advancing.{turn_is}
use Rattle.pld_image.proofs.chasing.turn_chasing.Goals as goal

pub returns-clause-end : goal.returns-clause-end
unfolding chasing_end steps
returns-clause-end c = c.turn_of.ensures ∙ ap turn_of c.advance.ensures.end ∙ ap (λ t. t.end) (sym (turn_is (chasing page_meaning) 256 (seen core_of c.args.core.now)))

pub returns-clause-core : goal.returns-clause-core
unfolding turned_chasing steps
returns-clause-core c = c.advance.ensures.state ∙ ap (λ t. t.core) (sym (turn_is (chasing page_meaning) 256 (seen core_of c.args.core.now)))

pub returns-clause-stands : goal.returns-clause-stands
returns-clause-stands c =
    let at = seen core_of c.args.core.now in
    subst (λ x. ChasingStandsAt x c.turn_of.result) (sym (returns-clause-core c))
    (subst (ChasingStandsAt (turned_chasing at)) (sym (returns-clause-end c)) (c.chasing_turns_are_steps.ensures.stands at c.left-left.ensures.repeats))
