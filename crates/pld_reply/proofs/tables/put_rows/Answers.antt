use Rattle.pld_reply.specs.Tables.{row_lines, all_rows}
use Rattle.pld_reply.proofs.Replying.{all_lines}
use Rattle.pld_reply.proofs.tables.put_rows.Goals as goal

pub returns : goal.returns
unfolding all_rows
returns c = all_lines _ _ (row_lines c.args.rows.now) 64 c.loop-leaf.leaf c.loop-leaf.auto.leaf-end c.loop-leaf-test.false c.loop-leaf.invariant
