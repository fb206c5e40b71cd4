use Rattle.std.proofs.Common.{◌≡◌, ◌+◌, ◌-◌, suc, sym, ◌∙◌, arith}
use Rattle.pld_place.proofs.Steps.{not_free}
use Rattle.pld_place.proofs.leaves.least_free.Goals as goal

-- the leaf is taken
pub loop-leaf-preserved : goal.loop-leaf-preserved
loop-leaf-preserved c =
    let below = c.loop-leaf-test.true in
    let more : c.args.last + 1 - c.loop-leaf.leaf ≡ suc (c.args.last + 1 - (c.loop-leaf.leaf + 1)) = omega (arith, below) in
    sym (not_free c.args.taken.now c.loop-leaf.leaf _ _ more (sym c.is_among.ensures ∙ c.if-not-is_among.false)) ∙ c.loop-leaf.invariant
