use Rattle.std.proofs.Common.{◌≡◌, ◌≤◌, ◌+◌, length}
use Rattle.rv_asm.specs.Words.{lines_of}
use Rattle.rv_asm.specs.Assembly.{from_line}
use Rattle.rv_asm.proofs.lines.read_head.Given as goal

abbrev pub invariant-loop-rest : goal.invariant-loop-rest
invariant-loop-rest l = record {
  told : from_line l.at (lines_of l.rest) ≡ from_line 1 (lines_of l.text);
  bound : l.at + length l.rest ≤ 65537;
}

abbrev pub decreases-loop-rest : goal.decreases-loop-rest
decreases-loop-rest l = length l.rest
