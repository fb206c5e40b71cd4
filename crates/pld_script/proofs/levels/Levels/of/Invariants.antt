use Rattle.std.proofs.Common.{◌≡◌, length, drop}
use Rattle.pld_script.specs.Grammar.{letters_in}
use Rattle.pld_script.proofs.Wording.{ahead_of}
use Rattle.pld_script.proofs.levels.Levels.of.Given as goal

abbrev pub invariant-loop-b : goal.invariant-loop-b
invariant-loop-b l = record {
  count : length l.levels ≡ l.b-index;
  rest : ahead_of l.levels (letters_in (drop l.b-index l.word)) ≡ letters_in l.word;
}
