use Rattle.std.proofs.Common.{◌≡◌, map, refl, sym, ap, ◌∙◌, subst}
use Rattle.pld_base.specs.Process.{WritesWords}
use Rattle.pld_kahn.specs.Realises.{Realises}
use Rattle.pld_ast.specs.Meaning.{trace}
use Rattle.pld_ast.specs.Resolve.{program_of}
use Rattle.fsm_core.specs.Table.{IsTable, plan_in}
use Rattle.image_form.specs.Spelling.{Hard}
use Rattle.pld_image.specs.Processes.{process_of}
use Rattle.pld_image.specs.Traps.{NeverTraps}
use Rattle.fsm_back.specs.Table.{gen_hard}
use Rattle.fsm_back.proofs.Laying.{are_scheduled, few_states, states_are, table_is}
use Rattle.fsm_back.proofs.compile.compile_hard.Goals as goal

pub first_states-requires : goal.first_states-requires
first_states-requires c =
    let g = program_of c.args.checked.now in
    let sound = c.operator-op.ensures.sound in
    let are = are_scheduled g sound c.in_ok-lowered.lowered.blocks.items c.as_slice.result.now c.in_ok-blocks.blocks.items c.in_ok-lowered.ensures.blocks c.as_slice.ensures.value c.in_ok-blocks.ensures in
    few_states g sound c.in_ok-blocks.blocks.items c.as_slice-2.result.now c.as_slice-2.ensures.value are

pub put_all-requires : goal.put_all-requires
put_all-requires c =
    let g = program_of c.args.checked.now in
    let sound = c.operator-op.ensures.sound in
    let are = are_scheduled g sound c.in_ok-lowered.lowered.blocks.items c.as_slice.result.now c.in_ok-blocks.blocks.items c.in_ok-lowered.ensures.blocks c.as_slice.ensures.value c.in_ok-blocks.ensures in
    few_states g sound c.in_ok-blocks.blocks.items c.in_ok-blocks.blocks.items refl are

table_made : (c : goal.After-table_of-table) → plan_in c.table_of-table.result ≡ gen_hard (program_of c.args.checked.now)
table_made c =
    let g = program_of c.args.checked.now in
    let sound = c.operator-op.ensures.sound in
    let are = are_scheduled g sound c.in_ok-lowered.lowered.blocks.items c.as_slice.result.now c.in_ok-blocks.blocks.items c.in_ok-lowered.ensures.blocks c.as_slice.ensures.value c.in_ok-blocks.ensures in
    let states = states_are g sound c.in_ok-firsts.firsts.items c.as_slice-3.result.now c.in_ok-blocks.blocks.items c.as_slice-2.result.now _ are c.as_slice-2.ensures.value c.in_ok-firsts.ensures c.as_slice-3.ensures.value c.in_ok-states.ensures in
    let arrays = c.in_ok-arrays.ensures ∙ ap (map (λ a. a.len)) (c.as_slice-4.ensures ∙ ap (λ o. o.arrays) c.operator-op.ensures.value) in
    c.table_of-table.ensures ∙ table_is g sound _ _ _ _ _ refl refl arrays c.in_ok-lowered.ensures.registers states

pub of-requires : goal.of-requires
of-requires c = subst IsTable (sym (table_made c)) (c.tables_are_in_range.ensures (program_of c.args.checked.now) c.operator-op.ensures.sound)

pub returns-clause-form : goal.returns-clause-form
returns-clause-form c = c.of.ensures ∙ ap Hard (table_made c.before.before.before)

pub returns-clause-realises : goal.returns-clause-realises
returns-clause-realises c = subst (λ i. Realises (process_of i) (trace (program_of c.args.checked.now))) (sym (returns-clause-form c)) (c.tables_keep_the_meaning.ensures.realises (program_of c.args.checked.now) c.operator-op.ensures.sound)

pub returns-clause-never_traps : goal.returns-clause-never_traps
returns-clause-never_traps c = subst NeverTraps (sym (returns-clause-form c)) (c.tables_keep_the_meaning.ensures.never_traps (program_of c.args.checked.now) c.operator-op.ensures.sound)

pub returns-clause-writes_words : goal.returns-clause-writes_words
returns-clause-writes_words c = subst (λ i. WritesWords (process_of i)) (sym (returns-clause-form c)) (c.tables_keep_the_meaning.ensures.writes_words (program_of c.args.checked.now) c.operator-op.ensures.sound)
