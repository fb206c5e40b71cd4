use Rattle.std.proofs.Common.{◌≡◌, length}
use Rattle.pld_parse.specs.Reading.{chained}
use Rattle.pld_parse.proofs.statement.chain.Given as goal

abbrev pub invariant-loop-arm : goal.invariant-loop-arm
invariant-loop-arm l = chained l.left l.statement ≡ chained l.fn.arms l.fn.last

abbrev pub decreases-loop-arm : goal.decreases-loop-arm
decreases-loop-arm l = length l.left
