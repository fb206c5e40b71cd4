use Rattle.std.proofs.Common.{◌≡◌, ◌+◌, ◌++◌, length, drop}
use Rattle.std.specs.Vec.Iter.{into_iter_items, into_iter_len}
use Rattle.pld_link.specs.Seats.{numbers}
use Rattle.fabric_plan.specs.Plans.{pages_of}
use Rattle.fabric_plan.proofs.planning.pages.Given as goal

abbrev pub invariant-loop-image : goal.invariant-loop-image
invariant-loop-image l =
    (l.pages.items ++ pages_of (drop (length l.pages.items) (numbers l.leaves)) (into_iter_items l.image-iterator) ≡ pages_of (numbers l.leaves) (into_iter_items l.initial.image-iterator))
    × (length l.pages.items + length (into_iter_items l.image-iterator) ≡ length l.leaves)
    × (into_iter_len l.image-iterator ≡ length (into_iter_items l.image-iterator))
