use Rattle.std.specs.Prelude.{take}
use Rattle.pld_ast.specs.Resolve.{block_in, declared_in, program_of}
use Rattle.pld_ast.specs.Sound.{IsKnown}
use Rattle.pld_check.proofs.Parts.{Tells}
use Rattle.pld_check.proofs.known.+known.Given as goal

abbrev pub invariant-are_known-loop-s : goal.invariant-are_known-loop-s
invariant-are_known-loop-s l = record {
  so_far : Tells l.known (IsKnown (program_of l.op) (block_in (declared_in l.op) (take l.s-index l.body)));
}
