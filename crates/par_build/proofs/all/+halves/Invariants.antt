use Prim.Native.Nat.{◌+◌, ◌*◌}
use Rattle.par_build.proofs.all.+halves.Given as goal

abbrev pub decreases-by_halves : goal.decreases-by_halves
decreases-by_halves g l = 2 * l.splits

abbrev pub decreases-front : goal.decreases-front
decreases-front g l = 2 * l.left + 1

abbrev pub decreases-back : goal.decreases-back
decreases-back g l = 2 * l.left + 1
