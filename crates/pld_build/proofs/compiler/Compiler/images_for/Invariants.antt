use Rattle.std.proofs.Common.{◌≡◌, map, take}
use Rattle.pld_build.specs.Images.{image_of}
use Rattle.pld_build.proofs.compiler.Compiler.images_for.Given as goal

abbrev pub invariant-loop-source : goal.invariant-loop-source
invariant-loop-source l = l.images.items ≡ map image_of (take l.source-index l.sources)
