use Rattle.std.proofs.Common.{◌+◌}
use Rattle.pld_reply.specs.Tables.{page_lines, all_pages}
use Rattle.pld_reply.proofs.Replying.{all_lines}
use Rattle.pld_reply.proofs.tables.put_pages.Goals as goal

pub returns : goal.returns
unfolding all_pages
returns c = all_lines _ _ (λ i. page_lines c.args.pages.now (1 + i)) 63 c.loop-i.i c.loop-i.auto.i-end c.loop-i-test.false c.loop-i.invariant
