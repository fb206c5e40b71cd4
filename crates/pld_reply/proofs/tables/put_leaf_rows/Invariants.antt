use Rattle.std.proofs.Common.{◌≡◌, ◌++◌}
use Rattle.fabric_run.specs.Plan.{row_in}
use Rattle.fabric_run.specs.Reply.{lines_below}
use Rattle.pld_reply.specs.Tables.{row_line}
use Rattle.pld_reply.proofs.tables.put_leaf_rows.Given as goal

abbrev pub invariant-loop-slot : goal.invariant-loop-slot
invariant-loop-slot l = l.reply.items ≡ l.fn.reply.items ++ lines_below (λ slot. row_line l.leaf slot (row_in l.rows l.leaf slot)) l.slot
