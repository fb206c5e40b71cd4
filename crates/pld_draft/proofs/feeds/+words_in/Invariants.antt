use Rattle.std.proofs.Common.{length}
use Rattle.pld_draft.proofs.feeds.+words_in.Given as goal

abbrev pub decreases-words_in : goal.decreases-words_in
decreases-words_in l = length l.feeds.now
