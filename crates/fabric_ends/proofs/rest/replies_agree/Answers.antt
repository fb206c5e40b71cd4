use Rattle.fabric_ends.proofs.Agreeing.{same_reply}
use Rattle.fabric_ends.proofs.rest.replies_agree.Goals as goal

pub returns : goal.returns
returns c = λ names outputs operators outs a b rested same. same_reply names outputs operators outs a b rested same
