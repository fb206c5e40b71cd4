use Rattle.std.proofs.Common.{◌≡◌, ◌+◌, ◌++◌, length, map, drop}
use Rattle.std.specs.Vec.Iter.{into_iter_len}
use Rattle.par_build.specs.Jobs.{image_made}
use Rattle.pld_build.specs.Images.{images_at}
use Rattle.pld_build.proofs.jobs.jobs.Given as goal

abbrev pub invariant-loop-permit : goal.invariant-loop-permit
invariant-loop-permit l =
    (map image_made l.jobs.items ++ images_at l.sources (drop (length l.jobs.items) l.places) ≡ images_at l.sources l.places)
    × (length l.jobs.items + into_iter_len l.permit-iterator ≡ length l.places)
