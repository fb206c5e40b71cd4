use Rattle.std.proofs.Common.{ap, ◌∙◌}
use Rattle.pld_ast.specs.declared.tree.Operator.{Operator}
use Rattle.pld_check.proofs.Walks.{whole_first, whole_known}
use Rattle.pld_check.proofs.names.wrong_name.Goals as goal

pub returns-clause-first : goal.returns-clause-first
returns-clause-first c =
    whole_first c.args.op.now c.earlier.result c.declared_twice.result c.wrong_block.result c.as_slice.result.now (c.as_slice.ensures ∙ ap (λ (o : Operator). o.body) c.operator.ensures)
    c.earlier.ensures c.declared_twice.ensures c.wrong_block.ensures

pub returns-clause-known : goal.returns-clause-known
returns-clause-known c =
    whole_known c.args.op.now c.earlier.result c.declared_twice.result c.wrong_block.result c.as_slice.result.now (c.as_slice.ensures ∙ ap (λ (o : Operator). o.body) c.operator.ensures)
    c.earlier.ensures c.declared_twice.ensures c.wrong_block.ensures
