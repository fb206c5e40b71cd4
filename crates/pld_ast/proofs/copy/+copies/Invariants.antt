use Rattle.std.proofs.Common.{◌≡◌, take}
use Rattle.pld_ast.proofs.copy.+copies.Given as goal

abbrev pub invariant-block-loop-s : goal.invariant-block-loop-s
invariant-block-loop-s l = record {
  so_far : l.made ≡ take l.s-index l.body;
}
