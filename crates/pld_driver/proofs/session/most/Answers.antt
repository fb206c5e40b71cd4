use Rattle.std.proofs.Common.{refl}
use Rattle.pld_driver.specs.Reading.{limit}
use Rattle.pld_driver.proofs.session.most.Goals as goal

pub returns : goal.returns
unfolding limit
returns c = refl
