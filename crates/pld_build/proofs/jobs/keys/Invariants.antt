use Rattle.std.proofs.Common.{◌≡◌, map, take}
use Rattle.build_cache.specs.Keys.{asked}
use Rattle.pld_build.specs.Images.{pair_of}
use Rattle.pld_build.proofs.jobs.keys.Given as goal

abbrev pub invariant-loop-source : goal.invariant-loop-source
invariant-loop-source l = map asked l.keys.items ≡ map pair_of (take l.source-index l.sources)
