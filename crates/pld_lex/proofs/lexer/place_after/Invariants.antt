use Rattle.std.proofs.Common.{◌≡◌, ◌≤◌, ◌+◌, drop}
use Rattle.pld_lex.specs.Lexed.{place_after}
use Rattle.pld_lex.proofs.lexer.place_after.Given as goal

abbrev pub invariant-loop-b : goal.invariant-loop-b
invariant-loop-b l = record {
  rest : place_after (record { line = l.line; column = l.column }) (drop l.b-index l.bytes) ≡ place_after l.fn.at l.bytes;
  line : l.line ≤ l.fn.at.line + l.b-index;
  column : l.column ≤ l.fn.at.column + 1 + l.b-index;
}
