use Rattle.std.proofs.Common.{◌≡◌, ◌++◌, take}
use Rattle.pld_reply.specs.Replies.{hex}
use Rattle.pld_reply.proofs.image.put_hex.Given as goal

abbrev pub invariant-loop-byte : goal.invariant-loop-byte
invariant-loop-byte l = l.reply.items ≡ l.fn.reply.items ++ hex (take l.byte-index l.bytes)
