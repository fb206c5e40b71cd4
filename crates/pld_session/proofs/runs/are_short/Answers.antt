use Rattle.pld_session.proofs.Making.{all_short}
use Rattle.pld_session.proofs.runs.are_short.Goals as goal

pub returns : goal.returns
returns c = all_short c.args.names.now c.loop-name.name-index c.loop-name.invariant c.loop-name-test.false
