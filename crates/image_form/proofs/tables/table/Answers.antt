use Rattle.std.proofs.Common.{rules}
use Rattle.std.proofs.lemmas.Result.{err_from_is_err_and}
use Rattle.image_form.proofs.MadeTables.{table_by, table_fails}
use Rattle.image_form.proofs.tables.table.Goals as goal

pub returns-in_err-states : goal.returns-in_err-states
returns-in_err-states c =
    let p = err_from_is_err_and c.from_residual-in_err-states.result c.from_residual-in_err-states.ensures.1 in
    rw (p.1, p.2) (table_fails c.in_err-states.field-0.0 c.args.ins c.args.outs _ c.len.result _ _ _ _ _ _ _ _ c.in_ok-count.ensures.value c.in_ok-arrays.ensures c.in_ok-registers.ensures.value c.in_ok-count-2.ensures.value (search rules) c.in_err-states.ensures)

pub returns : goal.returns
returns c =
    table_by c.args.ins c.args.outs _ c.len.result _ _ _ _ _ _ _ _ c.in_ok-count.ensures.value c.in_ok-arrays.ensures c.in_ok-registers.ensures.value c.in_ok-count-2.ensures.value (search rules) c.in_ok-states.ensures
