use Rattle.std.proofs.Common.{◌≡◌, take}
use Rattle.pld_reply.specs.Summary.{word_sum}
use Rattle.pld_reply.proofs.summary.sum_words.Given as goal

abbrev pub invariant-loop-word : goal.invariant-loop-word
invariant-loop-word l = l.total ≡ word_sum (take l.word-index l.words)
