use Rattle.std.proofs.Common.{◌≡◌, ◌≤◌, ◌-◌, suc, drop, length}
use Rattle.pld_lex.specs.Lexed.{joined, scan, first_place}
use Rattle.pld_lex.proofs.lexer.scan.Given as goal

abbrev pub invariant-loop-start : goal.invariant-loop-start
invariant-loop-start l = record {
  told : joined l.tokens.items (scan 0 l.start l.at (drop l.start l.text)) ≡ scan 0 0 first_place l.fn.text;
  within : l.start ≤ length l.fn.text;
  line : l.at.line ≤ suc l.start;
  column : l.at.column ≤ suc l.start;
}

abbrev pub decreases-loop-start : goal.decreases-loop-start
decreases-loop-start l = length l.text - l.start
