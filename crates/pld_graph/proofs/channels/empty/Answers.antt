use Rattle.std.proofs.Common.{rules, ◌≡◌, ◌-◌, Some, None, sym, ap, subst, ◌∙◌}
use Rattle.std.specs.Prelude.{slice_get}
use Rattle.pld_graph.specs.Slots.{live}
use Rattle.pld_graph.specs.Masks.{AreCounted}
use Rattle.pld_graph.proofs.Counted.{enough, less_counted}
use Rattle.pld_graph.proofs.Found.{set_same}
use Rattle.pld_graph.proofs.channels.empty.Goals as goal

pub overflow_sub-tally : goal.overflow_sub-tally
overflow_sub-tally c = (enough c.args.slots.now c.args.i c.in-Some.gone c.args.tally.now c.in-Some.ensures.taken c.requires.counted).0

pub overflow_sub-tally-in-Some : goal.overflow_sub-tally-in-Some
overflow_sub-tally-in-Some c =
    let some = (enough c.args.slots.now c.args.i c.in-Some.gone c.args.tally.now c.in-Some.ensures.taken c.requires.counted).1.0 in
    search rules

pub overflow_sub-tally-in-Some-2 : goal.overflow_sub-tally-in-Some-2
overflow_sub-tally-in-Some-2 c =
    let some = (enough c.args.slots.now c.args.i c.in-Some.gone c.args.tally.now c.in-Some.ensures.taken c.requires.counted).1.1 in
    search rules

pub returns-in-Some-clause-counted : goal.returns-in-Some-clause-counted
returns-in-Some-clause-counted c =
    subst (λ s. AreCounted (live s) (record { channels = c.args.tally.now.channels - 1; inputs = c.args.tally.now.inputs - c.one_input.result; outputs = c.args.tally.now.outputs - c.one_output.result })) (sym c.take.ensures.emptied)
    (less_counted c.args.slots.now c.args.i c.in-Some.gone c.args.tally.now (record { channels = c.args.tally.now.channels - 1; inputs = c.args.tally.now.inputs - c.one_input.result; outputs = c.args.tally.now.outputs - c.one_output.result }) c.in-Some.ensures.taken (search rules) (search rules) (search rules) c.requires.counted)

pub returns-in_default-clause-counted : goal.returns-in_default-clause-counted
returns-in_default-clause-counted c =
    subst (λ s. AreCounted (live s) c.args.tally.now) (sym (c.take.ensures.emptied ∙ set_same c.args.slots.now c.args.i None c.in_default.ensures.taken)) c.requires.counted
