use Rattle.std.proofs.Common.{◌≡◌, ◌≤◌, drop}
use Rattle.pld_check.specs.Faults.{words_passed}
use Rattle.pld_check.proofs.limits.words_passed.Given as goal

abbrev pub invariant-loop-array : goal.invariant-loop-array
invariant-loop-array l = record {
  rest : words_passed l.words (drop l.array-index l.arrays) ≡ words_passed 0 l.arrays;
  bound : l.words ≤ 8192;
}
