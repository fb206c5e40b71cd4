use Rattle.std.proofs.Common.{map, ap, ◌∙◌}
use Rattle.std.specs.Str.{bytes_eq}
use Rattle.std.specs.Map.{lookup}
use Rattle.pld_check.specs.Uses.{of_port, of_scalar, of_array}
use Rattle.pld_check.specs.Scopes.{declared_from}
use Rattle.pld_check.proofs.Scoping.{three_declared}
use Rattle.pld_check.proofs.scope.Scoped.of.Goals as goal

pub invariant_of-result : goal.invariant_of-result
invariant_of-result c =
    let op = c.args.operator in
    let e0 = c.new-by_name.result.entries in
    let e1 = c.declare_all.new.by_name.entries in
    let e2 = c.declare_all-2.new.by_name.entries in
    three_declared (map of_port op.ports) (map of_scalar op.scalars) (map of_array op.arrays) e0 e1 e2 c.declare_all-3.new.by_name.entries c.new-by_name.ensures.empty
    (λ q. c.in_ok-declare_all.ensures q ∙ ap (λ xs. declared_from (lookup (bytes_eq q) e0) q (map of_port xs)) c.as_slice.ensures)
    (λ q. c.in_ok-declare_all-2.ensures q ∙ ap (λ xs. declared_from (lookup (bytes_eq q) e1) q (map of_scalar xs)) c.as_slice-2.ensures)
    (λ q. c.in_ok-declare_all-3.ensures q ∙ ap (λ xs. declared_from (lookup (bytes_eq q) e2) q (map of_array xs)) c.as_slice-3.ensures)
