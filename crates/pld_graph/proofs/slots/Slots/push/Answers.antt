use Rattle.std.proofs.Common.{◌≡◌, ◌++◌, ◌∷◌, [], Some, false, length, sym, ap, subst, ◌∙◌, arith}
use Rattle.std.specs.List.{list_any}
use Rattle.std.proofs.lemmas.List.Elements.{filter_map-append}
use Rattle.pld_graph.specs.Parts.{same_from, same_to}
use Rattle.pld_graph.specs.Slots.{live}
use Rattle.pld_graph.proofs.Counted.{live_few}
use Rattle.pld_graph.proofs.slots.Slots.push.Goals as goal

pub append-requires-clause-from_free : goal.append-requires-clause-from_free
append-requires-clause-from_free c = subst (λ cs. list_any (λ d. same_from c.args.from.now d.from) cs ≡ false) (sym c.in_ok-close_up.ensures) c.requires.from_free

pub append-requires-clause-to_free : goal.append-requires-clause-to_free
append-requires-clause-to_free c = subst (λ cs. list_any (λ d. same_to c.args.to.now d.to) cs ≡ false) (sym c.in_ok-close_up.ensures) c.requires.to_free

pub returns-clause-pushed : goal.returns-clause-pushed
returns-clause-pushed c =
    ap live c.in_ok-append.ensures ∙ filter_map-append (λ s. s) c.close_up.new.self (Some (record { from = c.args.from.now; to = c.args.to.now }) ∷ [])
    ∙ ap (λ cs. cs ++ (record { from = c.args.from.now; to = c.args.to.now }) ∷ []) c.in_ok-close_up.ensures

pub returns-clause-few : goal.returns-clause-few
returns-clause-few c =
    let few = live_few c.append.new.self in
    let n = c.len-slots.ensures in
    let most = c.len-slots.type_inv in
    omega (arith, few, n, most)
