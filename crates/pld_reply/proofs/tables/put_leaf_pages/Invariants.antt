use Rattle.std.proofs.Common.{◌≡◌, ◌++◌, take}
use Rattle.pld_reply.specs.Tables.{page_lines}
use Rattle.pld_reply.proofs.tables.put_leaf_pages.Given as goal

abbrev pub invariant-loop-page : goal.invariant-loop-page
invariant-loop-page l = l.reply.items ≡ l.fn.reply.items ++ page_lines (take l.page-index l.pages) l.leaf
