use Rattle.std.specs.Prelude.{take}
use Rattle.pld_ast.specs.Resolve.{block_in, declared_in, program_of}
use Rattle.pld_ast.specs.Sound.{IsKnown}
use Rattle.pld_check.specs.Uses.{block_uses}
use Rattle.pld_check.specs.Faults.{Walked}
use Rattle.pld_check.proofs.names.+wrong.Given as goal

abbrev pub invariant-wrong_block-loop-s : goal.invariant-wrong_block-loop-s
invariant-wrong_block-loop-s l = record {
  so_far : Walked l.op l.found (block_uses (take l.s-index l.body)) (IsKnown (program_of l.op) (block_in (declared_in l.op) (take l.s-index l.body)));
}
