use Rattle.std.proofs.Common.{◌≡◌, ◌≤◌, ◌++◌, take}
use Rattle.std.specs.Prelude.{vec_capacity}
use Rattle.fabric_run.specs.Reply.{spaced}
use Rattle.pld_reply.proofs.runs.put_words.Given as goal

abbrev pub invariant-loop-word : goal.invariant-loop-word
invariant-loop-word l = (l.reply.items ≡ l.fn.reply.items ++ spaced (take l.word-index l.words)) × (vec_capacity l.fn.reply ≤ vec_capacity l.reply)
