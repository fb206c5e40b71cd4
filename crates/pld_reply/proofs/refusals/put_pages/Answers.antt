use Rattle.pld_reply.proofs.Replying.{on_ok, joins_four}
use Rattle.pld_reply.proofs.refusals.put_pages.Goals as goal

pub returns : goal.returns
returns c = on_ok c.put_number-2.result c.put_number-2.ensures.text (λ e. joins_four _ _ _ _ _ _ _ _ _ c.in_ok-put_text.ensures.text c.in_ok-put_number.ensures.text c.in_ok-put_text-2.ensures.text e)
