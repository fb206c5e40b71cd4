use Rattle.std.proofs.Common.{◌≡◌, ◌∙◌, length, rules}
use Rattle.std.specs.Vec.Iter.{into_iter_items, into_iter_len}
use Rattle.pld_build.proofs.Places.{keeping_first}
use Rattle.pld_build.proofs.compiler.Compiler.keep_all.Goals as goal

pub loop-image-init : goal.loop-image-init
loop-image-init c =
    let items : into_iter_items c.into_iter-image-iterator.result ≡ c.args.images.items = search rules in
    let count : into_iter_len c.into_iter-image-iterator.result ≡ length (into_iter_items c.into_iter-image-iterator.result) = search rules in
    (keeping_first c.args.sources.now c.args.places.now c.args.self.now _ c.requires.misses (items ∙ c.requires.images), count)
