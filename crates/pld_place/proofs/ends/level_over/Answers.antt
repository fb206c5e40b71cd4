use Rattle.std.proofs.Common.{◌≡◌, ◌+◌, ◌-◌, ◌==◌, suc, false, arith, rules}
use Rattle.pld_place.proofs.Steps.{level_up}
use Rattle.pld_place.proofs.ends.level_over.Goals as goal

pub loop-level-preserved : goal.loop-level-preserved
loop-level-preserved c =
    let below = c.loop-level-test.true in
    let more : c.args.levels - c.loop-level.level ≡ suc (c.args.levels - (c.loop-level.level + 1)) = omega (arith, below) in
    let other : (c.loop-level.low == c.loop-level.high) ≡ false = search rules in
    let up = level_up _ _ c.loop-level.low c.loop-level.high more other in
    let here = c.loop-level.invariant in
    omega (arith, up, here)
