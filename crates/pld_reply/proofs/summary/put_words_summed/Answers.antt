use Rattle.std.proofs.Common.{◌++◌, codes, decimal, length, ap, ◌∙◌}
use Rattle.pld_reply.proofs.Replying.{on_ok, joins_five}
use Rattle.pld_reply.proofs.summary.put_words_summed.Goals as goal

pub returns : goal.returns
returns c =
    on_ok c.put_text-3.result c.put_text-3.ensures.text (λ e.
    joins_five _ _ _ _ _ _ _ _ _ _ _ c.in_ok-put_text.ensures.text c.in_ok-put_number.ensures.text c.in_ok-put_text-2.ensures.text c.in_ok-put_number-2.ensures.text e
    ∙ ap (λ s. c.args.reply.now.items ++ ((((codes " words " ++ decimal (length c.args.words.now)) ++ codes " sum ") ++ decimal s) ++ codes "\n")) c.sum_words.ensures)
