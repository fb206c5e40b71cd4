use Rattle.std.proofs.Common.{◌≡◌, drop}
use Rattle.pld_ast.specs.Resolve.{block_in, declared_in}
use Rattle.fsm_ir.specs.Building.{made_in, after, HasSpace}
use Rattle.fsm_ir.proofs.emit.+statements.Given as goal

abbrev pub invariant-put_block-loop-s : goal.invariant-put_block-loop-s
invariant-put_block-loop-s l =
    HasSpace (made_in l.initial.b) (block_in (declared_in l.op) l.body)
    → (after (made_in l.b) (block_in (declared_in l.op) (drop l.s-index l.body)) ≡ after (made_in l.initial.b) (block_in (declared_in l.op) l.body))
    × HasSpace (made_in l.b) (block_in (declared_in l.op) (drop l.s-index l.body))
