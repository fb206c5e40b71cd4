use Rattle.std.proofs.Common.{rules, tests, ◌≡◌, length, ap, ◌∙◌}
use Rattle.std.specs.Option.{unwrap_or}
use Rattle.std.specs.Str.{bytes_eq}
use Rattle.std.proofs.lemmas.Iterator.{YieldsList-from_slice}
use Rattle.std.proofs.lemmas.Iterator.Search.{position_from_yields_List}
use Rattle.pld_ast.proofs.Naming.{found}
use Rattle.pld_ast.proofs.places.place_of.Goals as goal

pub returns-clause-value : goal.returns-clause-value
returns-clause-value g c =
    let named = g.T.Variable.named in
    let at = position_from_yields_List (λ v. bytes_eq (named v) c.args.name.now) _ _ _ c.position.ensures.ran (YieldsList-from_slice c.args.variables.now cc) (λ x b q k. search (rules, tests)) in
    let or_length : c.unwrap_or.result ≡ unwrap_or c.position.result (length c.args.variables.now) = search rules in
    or_length ∙ ap (λ o. unwrap_or o (length c.args.variables.now)) at ∙ found named c.args.variables.now c.args.name.now
