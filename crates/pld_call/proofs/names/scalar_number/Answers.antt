use Rattle.std.proofs.Common.{◌<◌, ◌+◌, length, map, ap, ◌∙◌, subst, arith}
use Rattle.pld_ast.specs.Resolve.{place_in}
use Rattle.pld_call.proofs.Places.{place_first, place_second}
use Rattle.pld_call.proofs.names.scalar_number.Goals as goal

pub returns-then-place-scope : goal.returns-then-place-scope
returns-then-place-scope c =
    let value = c.place_of-place.ensures.value in
    let params = c.args.scope.now.params.now in
    let n = c.args.name.now in
    value ∙ place_first params c.args.scope.now.locals.now n (subst (λ k. k < length params) value c.if-place-scope.true)

pub returns-else-place-scope : goal.returns-else-place-scope
returns-else-place-scope c =
    let value = c.place_of-place.ensures.value in
    let other = c.place_of.ensures.value in
    let params = c.args.scope.now.params.now in
    let locals = c.args.scope.now.locals.now in
    let n = c.args.name.now in
    let small = c.if-place-scope.false in
    ap (λ k. k + c.place_of.result) value ∙ ap (λ k. place_in (map (λ s. s.name) params) n + k) other ∙ place_second params locals n (omega (arith, small, value))
