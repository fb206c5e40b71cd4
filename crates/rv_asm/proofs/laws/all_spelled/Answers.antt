use Rattle.std.proofs.Common.{below_more}
use Rattle.rv_asm.proofs.laws.all_spelled.Goals as goal

pub loop-word-preserved : goal.loop-word-preserved
loop-word-preserved c = below_more _ _ c.loop-word.invariant c.spelled.ensures
