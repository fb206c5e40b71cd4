use Rattle.std.proofs.Common.{◌≡◌, map, take}
use Rattle.fsm_back.proofs.compile.lengths.Given as goal

abbrev pub invariant-loop-array : goal.invariant-loop-array
invariant-loop-array l = l.lengths.items ≡ map (λ a. a.len) (take l.array-index l.arrays)
