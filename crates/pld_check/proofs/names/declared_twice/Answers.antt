use Rattle.std.proofs.Common.{ap, ◌∙◌}
use Rattle.std.specs.Prelude.{map}
use Rattle.pld_ast.specs.declared.tree.Operator.{Operator}
use Rattle.pld_check.specs.Uses.{of_port, of_scalar, of_array}
use Rattle.pld_check.specs.Faults.{first_twice}
use Rattle.pld_check.proofs.Walks.{twice_in_three}
use Rattle.pld_check.proofs.names.declared_twice.Goals as goal

pub returns : goal.returns
returns c =
    let op = c.args.op.now in
    twice_in_three op (map of_port op.ports) (map of_scalar op.scalars) (map of_array op.arrays) c.first_twice-3.result c.first_twice.result c.first_twice-2.result c.earlier-variables.result c.earlier.result
    (c.first_twice-3.ensures ∙ ap (λ x. first_twice op (map of_port x)) (c.as_slice-3.ensures ∙ ap (λ (o : Operator). o.ports) c.operator-operator.ensures))
    (c.first_twice.ensures ∙ ap (λ x. first_twice op (map of_scalar x)) (c.as_slice.ensures ∙ ap (λ (o : Operator). o.scalars) c.operator-operator.ensures))
    (c.first_twice-2.ensures ∙ ap (λ x. first_twice op (map of_array x)) (c.as_slice-2.ensures ∙ ap (λ (o : Operator). o.arrays) c.operator-operator.ensures))
    c.earlier-variables.ensures c.earlier.ensures
