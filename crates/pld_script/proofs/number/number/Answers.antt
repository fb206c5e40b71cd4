use Rattle.std.proofs.Common.{arith}
use Rattle.pld_script.proofs.Counting.{counts_more}
use Rattle.pld_script.proofs.number.number.Goals as goal

pub loop-b-preserved : goal.loop-b-preserved
loop-b-preserved c =
    counts_more c.args.base c.loop-b.b-index c.loop-b.value c.in-Some.digit c.min-value.result c.args.digits.now
    c.loop-b.invariant c.requires.some (omega arith) c.in-Some.ensures.value c.min-value.ensures
