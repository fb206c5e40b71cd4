use Rattle.std.proofs.Common.{◌≡◌, ◌≤◌, length}
use Rattle.pld_script.specs.Words.{words_of}
use Rattle.pld_script.proofs.line.without_blanks.Given as goal

abbrev pub invariant-loop-b : goal.invariant-loop-b
invariant-loop-b l = record { words : words_of l.rest ≡ words_of l.line; within : length l.rest ≤ length l.line }

abbrev pub decreases-loop-b : goal.decreases-loop-b
decreases-loop-b l = length l.rest
