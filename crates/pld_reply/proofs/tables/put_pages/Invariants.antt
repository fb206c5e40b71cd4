use Rattle.std.proofs.Common.{◌≡◌, ◌++◌, ◌+◌}
use Rattle.fabric_run.specs.Reply.{lines_below}
use Rattle.pld_reply.specs.Tables.{page_lines}
use Rattle.pld_reply.proofs.tables.put_pages.Given as goal

abbrev pub invariant-loop-i : goal.invariant-loop-i
invariant-loop-i l = l.reply.items ≡ l.fn.reply.items ++ lines_below (λ i. page_lines l.pages (1 + i)) l.i
