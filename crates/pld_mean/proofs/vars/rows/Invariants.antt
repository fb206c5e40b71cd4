use Rattle.std.proofs.Common.{◌≡◌, map, length, take}
use Rattle.std.specs.Prelude.{replicate}
use Rattle.pld_mean.proofs.vars.rows.Given as goal

abbrev pub invariant-loop-array : goal.invariant-loop-array
invariant-loop-array l = record {
  words : map (λ row. row.items) l.rows.items ≡ map (λ a. replicate a.len 0) (take l.array-index l.arrays);
  lengths : map (λ row. length row.items) l.rows.items ≡ map (λ a. a.len) (take l.array-index l.arrays);
}
