use Rattle.std.proofs.Common.{◌≡◌, ◌+◌, ◌∷◌, map, drop, ap, sym, ◌∙◌}
use Rattle.std.specs.Str.{bytes_eq}
use Rattle.std.specs.Map.{lookup}
use Rattle.std.proofs.lemmas.List.{drop_more}
use Rattle.pld_check.specs.Scopes.{declared_from}
use Rattle.pld_check.proofs.Scoping.{one_declared}
use Rattle.pld_check.proofs.scope.declare_all.Goals as goal

pub loop-declaration-preserved : goal.loop-declaration-preserved
loop-declaration-preserved g c =
    let all = c.args.declarations.now in
    let i = c.loop-declaration.declaration-index in
    let es = c.loop-declaration.by_name.entries in
    let mention = g.D.Declaration.mention in
    let step = drop_more all i c.declaration-item.result c.loop-declaration-test.true in
    record {
      rest = λ q.
          one_declared es c.declare.new.by_name.entries (mention c.declaration-item.result) (map mention (drop (i + 1) all)) c.in_ok-declare.ensures q
          ∙ ap (λ xs. declared_from (lookup (bytes_eq q) es) q (map mention xs)) (sym (step ∙ ap (λ x. x ∷ drop (i + 1) all) (sym c.declaration-item.is)))
          ∙ c.loop-declaration.invariant.rest q;
    }
