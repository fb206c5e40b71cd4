use Rattle.std.proofs.Common.{◌≡◌, length}
use Rattle.std.specs.Vec.Iter.{into_iter_items, into_iter_len}
use Rattle.pld_build.proofs.Places.{IsKeeping}
use Rattle.pld_build.proofs.compiler.Compiler.keep_all.Given as goal

abbrev pub invariant-loop-image : goal.invariant-loop-image
invariant-loop-image l =
    IsKeeping l.sources l.places l.initial.self l.self l.k (into_iter_items l.image-iterator)
    × (into_iter_len l.image-iterator ≡ length (into_iter_items l.image-iterator))
