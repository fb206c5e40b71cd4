use Rattle.std.proofs.Common.{◌≡◌, ◌+◌, ◌≤◌, sum, drop}
use Rattle.std.specs.Prelude.{map}
use Rattle.pld_check.proofs.checked.words_in.Given as goal

abbrev pub invariant-loop-array : goal.invariant-loop-array
invariant-loop-array l = record {
  so_far : l.words + sum (map (λ a. a.len) (drop l.array-index l.arrays)) ≡ sum (map (λ a. a.len) l.arrays);
  bound : l.words ≤ 8192;
}
