use Rattle.std.proofs.Common.{rules, tests, ◌≡◌, ◌≤◌, length, subst, sym, ap, ◌∙◌, arith}
use Rattle.std.specs.Option.{unwrap_or}
use Rattle.std.specs.Str.{bytes_eq}
use Rattle.std.proofs.lemmas.Iterator.{YieldsList-from_slice}
use Rattle.std.proofs.lemmas.Iterator.Consumers.{YieldsList-from_filter}
use Rattle.std.proofs.lemmas.Iterator.Search.{position_from_yields_List}
use Rattle.pld_ast.specs.Resolve.{ports_at, is_at}
use Rattle.pld_ast.proofs.Naming.{found_at, within, few}
use Rattle.pld_ast.proofs.places.port_place.Goals as goal

pub returns-clause-value : goal.returns-clause-value
returns-clause-value c =
    let count = length (ports_at c.args.side c.args.ports.now) in
    let at = position_from_yields_List (λ q. bytes_eq q.name c.args.name.now) _ _ _ c.position.ensures.ran (YieldsList-from_filter _ (is_at c.args.side) (YieldsList-from_slice c.args.ports.now cc) c.filter.ensures.closure (λ x b q k. search (rules, tests))) (λ x b q k. search (rules, tests)) in
    let or_count : c.unwrap_or.result ≡ unwrap_or c.position.result count = search rules in
    or_count ∙ ap (λ o. unwrap_or o count) at ∙ found_at c.args.side c.args.ports.now c.args.name.now

pub returns-clause-within : goal.returns-clause-within
returns-clause-within c = subst (λ k. k ≤ length (ports_at c.args.side c.args.ports.now)) (sym (returns-clause-value c)) (within (ports_at c.args.side c.args.ports.now) c.args.name.now)

pub returns-clause-bound : goal.returns-clause-bound
returns-clause-bound c =
    let h : c.unwrap_or.result ≤ length (ports_at c.args.side c.args.ports.now) = returns-clause-within c in
    omega (arith, h, few c.args.side c.args.ports.now)
