use Rattle.std.proofs.Common.{refl}
use Rattle.pld_link.specs.Seats.{numbers}
use Rattle.pld_link.proofs.Filling.{filled_start, filled_step, filled_end}
use Rattle.pld_link.proofs.table.tables.Goals as goal

pub loop-k-init : goal.loop-k-init
loop-k-init c = filled_start c.args.g.now (numbers c.args.leaves.now) 1024 c.channels-k.result c.in_ok-rows.rows.items refl c.in_ok-rows.ensures c.channels-k.ensures.value

pub loop-k-preserved : goal.loop-k-preserved
loop-k-preserved c =
    filled_step c.args.g.now (numbers c.args.leaves.now) c.channel.result c.loop-k.k c.loop-k.rows.items _ c.requires c.loop-k-test.true c.channel.ensures c.join.ensures c.loop-k.invariant

pub returns : goal.returns
returns c = filled_end c.args.g.now (numbers c.args.leaves.now) c.loop-k.k c.loop-k.rows.items c.loop-k-test.false c.loop-k.invariant
