use Rattle.std.proofs.Common.{◌≡◌, ◌∷◌, ◌++◌, length, map, sym, ap, ◌∙◌, arith, rules}
use Rattle.std.proofs.lemmas.List.{length-map}
use Rattle.std.specs.Vec.Iter.{into_iter_items}
use Rattle.fsm_core.specs.Table.{stage_in}
use Rattle.fsm_back.specs.Table.{chained}
use Rattle.fsm_back.proofs.Laying.{step_states}
use Rattle.fsm_back.proofs.sequence.put_states.Goals as goal

pub loop-micros-preserved : goal.loop-micros-preserved
loop-micros-preserved c =
    let at = c.loop-micros in
    let rest = into_iter_items c.next.new.self in
    let steps : into_iter_items at.micros-iterator ≡ c.in-Some.micros ∷ rest = c.in-Some.ensures.steps.0 in
    let short = ap length steps in
    let n = length-map rest (λ m. m.items) in
    let len = c.len.ensures ∙ at.states.ok.0 in
    let more = ap length c.in_ok-push.ensures.items in (
      ap (λ l. map stage_in l ++ chained (length l) (map (λ m. m.items) rest) c.args.next) c.in_ok-push.ensures.items
          ∙ step_states at.states.items (record { micros = c.in-Some.micros; next = c.goes_on-next.result }) (map (λ m. m.items) rest) _ _ c.args.next c.goes_on-next.ensures (omega (arith, n, short, at.invariant.1)) (omega (arith, len))
          ∙ ap (λ l. map stage_in at.states.items ++ chained (length at.states.items) (map (λ m. m.items) l) c.args.next) (sym steps)
          ∙ at.invariant.0,
      omega (arith, short, at.invariant.1),
      (let gone = c.in-Some.ensures.steps.1 in omega (arith, gone, short, at.invariant.2)),
      search rules,
    )
