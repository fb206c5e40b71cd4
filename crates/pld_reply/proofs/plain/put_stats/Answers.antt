use Rattle.pld_reply.proofs.Replying.{on_ok, joins_nine}
use Rattle.pld_reply.proofs.plain.put_stats.Goals as goal

pub returns : goal.returns
returns c =
    on_ok c.put_text-5.result c.put_text-5.ensures.text (λ e.
    joins_nine _ _ _ _ _ _ _ _ _ _ _ _ _ _ _ _ _ _ _
    c.in_ok-put_text.ensures.text c.in_ok-put_number.ensures.text c.in_ok-put_text-2.ensures.text c.in_ok-put_number-2.ensures.text c.in_ok-put_text-3.ensures.text c.in_ok-put_number-3.ensures.text c.in_ok-put_text-4.ensures.text c.in_ok-put_number-4.ensures.text e)
