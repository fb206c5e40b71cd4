use Rattle.std.proofs.Common.{◌≡◌, ◌++◌, map, length}
use Rattle.std.specs.Vec.Iter.{into_iter_items, into_iter_len}
use Rattle.par_build.specs.Jobs.{image_made}
use Rattle.par_build.proofs.each.compile_each.Given as goal

abbrev pub invariant-loop-job : goal.invariant-loop-job
invariant-loop-job l =
    (l.images.items ++ map image_made (into_iter_items l.job-iterator) ≡ map image_made (into_iter_items l.initial.job-iterator))
    × (into_iter_len l.job-iterator ≡ length (into_iter_items l.job-iterator))
