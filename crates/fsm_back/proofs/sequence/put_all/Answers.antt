use Rattle.std.proofs.Common.{◌≡◌, ◌∷◌, ◌++◌, length, map, sym, ap, ◌∙◌, arith}
use Rattle.std.specs.Prelude.{slice_index}
use Rattle.std.specs.Vec.Iter.{into_iter_items}
use Rattle.fsm_core.specs.Table.{stage_in}
use Rattle.fsm_back.specs.Sequences.{sequence_in, count_states, laid_all}
use Rattle.fsm_back.proofs.Laying.{step_length, step_blocks}
use Rattle.fsm_back.proofs.sequence.put_all.Goals as goal

pub loop-block-preserved : goal.loop-block-preserved
loop-block-preserved c =
    let at = c.loop-block in
    let rest = into_iter_items c.next.new.self in
    let f = slice_index c.args.firsts.now in
    let steps : into_iter_items at.block-iterator ≡ c.in-Some.block ∷ rest = c.in-Some.ensures.steps.0 in
    let short = ap length steps in
    let many = ap (λ l. count_states (map sequence_in l)) steps in
    let l = step_length at.states.items c.put_states.new.states.items (sequence_in c.in-Some.block) c.by_states.result c.in_ok-put_states.ensures in (
      step_blocks at.states.items c.put_states.new.states.items (sequence_in c.in-Some.block) (map sequence_in rest) f c.by_states.result c.in_ok-put_states.ensures c.by_states.ensures
          ∙ ap (λ x. map stage_in at.states.items ++ laid_all f (length at.states.items) (map sequence_in x)) (sym steps)
          ∙ at.invariant.0,
      omega (arith, l, many, at.invariant.1),
      (let gone = c.in-Some.ensures.steps.1 in omega (arith, gone, short, at.invariant.2)),
    )
