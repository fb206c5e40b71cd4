use Rattle.std.proofs.Common.{◌≡◌, ◌++◌}
use Rattle.fabric_run.specs.Reply.{lines_below}
use Rattle.pld_reply.specs.Tables.{row_lines}
use Rattle.pld_reply.proofs.tables.put_rows.Given as goal

abbrev pub invariant-loop-leaf : goal.invariant-loop-leaf
invariant-loop-leaf l = l.reply.items ≡ l.fn.reply.items ++ lines_below (row_lines l.rows) l.leaf
