use Rattle.std.proofs.Common.{◌≡◌, ◌≤◌, ◌+◌, length}
use Rattle.rv_asm.specs.Words.{lines_of}
use Rattle.rv_asm.specs.Assembly.{lines_in, after_lines}
use Rattle.rv_asm.proofs.lines.read_lines.Given as goal

abbrev pub invariant-loop-rest : goal.invariant-loop-rest
invariant-loop-rest l = record {
  told : after_lines l.lines.items (lines_in l.number (lines_of l.rest)) ≡ lines_in l.first (lines_of l.fn.text);
  number : l.number ≡ l.first + length l.lines.items;
  bound : l.number + length l.rest ≤ 65537;
}

abbrev pub decreases-loop-rest : goal.decreases-loop-rest
decreases-loop-rest l = length l.rest
