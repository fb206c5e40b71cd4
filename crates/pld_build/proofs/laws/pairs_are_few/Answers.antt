use Rattle.std.proofs.Common.{map, arith}
use Rattle.std.proofs.lemmas.List.{length-map}
use Rattle.pld_build.specs.Images.{pair_of}
use Rattle.pld_build.proofs.laws.pairs_are_few.Goals as goal

pub returns : goal.returns
returns c = λ kept sources.
    let few = c.misses_are_few.ensures kept (map pair_of sources) in
    let n = length-map sources pair_of in
    omega (arith, few, n)
