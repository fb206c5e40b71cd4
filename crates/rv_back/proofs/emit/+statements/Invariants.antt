use Rattle.std.proofs.Common.{◌≡◌, ◌++◌, drop}
use Rattle.pld_ast.specs.Resolve.{block_in, declared_in}
use Rattle.rv_back.specs.Form.{HasSpace, block_code}
use Rattle.rv_back.proofs.emit.+statements.Given as goal

abbrev pub invariant-put_block-loop-s : goal.invariant-put_block-loop-s
invariant-put_block-loop-s l =
    HasSpace l.initial.code.items (block_in (declared_in l.op) l.body)
    → (l.code.items ++ block_code l.op (drop l.s-index l.body) ≡ l.initial.code.items ++ block_code l.op l.body)
    × HasSpace l.code.items (block_in (declared_in l.op) (drop l.s-index l.body))
