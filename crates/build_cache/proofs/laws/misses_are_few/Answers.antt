use Rattle.build_cache.proofs.Missed.{few}
use Rattle.build_cache.proofs.laws.misses_are_few.Goals as goal

pub returns : goal.returns
returns c = few
