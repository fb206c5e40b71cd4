use Rattle.std.proofs.Common.{◌≡◌, drop, false}
use Rattle.pld_lex.specs.Lexed.{closed_after}
use Rattle.pld_lex.proofs.Bytes.{further}
use Rattle.pld_lex.proofs.piece.comment_length.Given as goal

abbrev pub invariant-loop-i : goal.invariant-loop-i
invariant-loop-i l = further l.i (closed_after l.star (drop l.i l.text)) ≡ closed_after false l.text
