use Rattle.pld_reply.proofs.Lengths.{reply_is_short}
use Rattle.pld_reply.proofs.laws.run_replies_are_short.Goals as goal

pub returns : goal.returns
returns c = reply_is_short
