use Rattle.pld_script.specs.Chain.{design_text}
use Rattle.pld_script.proofs.Joining.{begins_five}
use Rattle.pld_script.proofs.chain.design.Goals as goal

pub returns : goal.returns
unfolding design_text
returns c =
    begins_five _ _ _ _ _ _ _ _ _ _ _ c.new-text.ensures.bytes
    c.in_ok-put_line.ensures c.in_ok-put_operators.ensures c.in_ok-put_line-2.ensures c.in_ok-put_channels.ensures c.in_ok-put_output.ensures
