use Rattle.std.proofs.Common.{rules, ◌≡◌, ◌++◌, ◌∷◌, [], Bool, false, Some, cond, length, sym, ap, subst, ◌∙◌}
use Rattle.std.specs.Prelude.{OnOk}
use Rattle.std.specs.List.{list_any}
use Rattle.std.specs.Map.{lookup}
use Rattle.pld_graph.specs.declared.parts.Channel.{Channel}
use Rattle.pld_graph.specs.declared.parts.FromEnd.{FromEnd}
use Rattle.pld_graph.specs.declared.parts.ToEnd.{ToEnd}
use Rattle.pld_graph.specs.Parts.{same_from, same_to}
use Rattle.pld_graph.specs.Slots.{live, IsFound}
use Rattle.pld_graph.specs.contracts.parts.FromEndPartialEq.TheImpl.{eq-value as from_test}
use Rattle.pld_graph.specs.contracts.parts.ToEndPartialEq.TheImpl.{eq-value as to_test}
use Rattle.pld_graph.proofs.Ended.{from_is, from_same, to_is, to_same}
use Rattle.pld_graph.proofs.Found.{found_more}
use Rattle.pld_graph.proofs.slots.Slots.append.Goals as goal

pub invariant_of-self-2 : goal.invariant_of-self-2
invariant_of-self-2 c =
    let slots = c.self.inside.channels.items in
    let d : Channel = record { from = c.args.from.now; to = c.args.to.now } in
    let items : c.push.new.self.items ≡ slots ++ Some d ∷ [] = search rules in
    let n : c.len-i.result ≡ length slots = search rules in
    let es = c.self.inside.from_at.entries in
    let fs = c.self.inside.to_at.entries in
    let kept : c.reserve-2.new.self.entries ≡ fs = c.reserve-2.ensures.entries in
    let put = subst (λ r. OnOk r ((q : ToEnd) → lookup (to_test.it q) c.insert-2.new.self.entries ≡ cond (to_test.it d.to q) (Some c.len-i.result) (lookup (to_test.it q) c.reserve-2.new.self.entries))) c.unwrap.ensures (search rules) in (
      subst (λ l. IsFound same_from (λ x. x.from) l c.insert.new.self.entries) (sym items)
          (found_more same_from from_same (λ x. x.from) slots es c.self.invariant.0 d _ (subst (λ s. list_any (λ x. same_from d.from x.from) (live s) ≡ false) (sym c.self.view_is) c.requires.from_free)
          (subst (λ (t : FromEnd → FromEnd → Bool). (q : FromEnd) → lookup (t q) c.insert.new.self.entries ≡ cond (t d.from q) (Some (length slots)) (lookup (t q) es)) (λ i a b. from_is a b i)
          (λ q. c.in_ok-insert.ensures.updates.0 q ∙ (λ i. cond (from_test.it d.from q) (Some (n i)) (lookup (from_test.it q) es))))),
      subst (λ l. IsFound same_to (λ x. x.to) l c.insert-2.new.self.entries) (sym items)
          (found_more same_to to_same (λ x. x.to) slots fs c.self.invariant.1 d _ (subst (λ s. list_any (λ x. same_to d.to x.to) (live s) ≡ false) (sym c.self.view_is) c.requires.to_free)
          (subst (λ (t : ToEnd → ToEnd → Bool). (q : ToEnd) → lookup (t q) c.insert-2.new.self.entries ≡ cond (t d.to q) (Some (length slots)) (lookup (t q) fs)) (λ i a b. to_is a b i)
          (λ q. put q ∙ (λ i. cond (to_test.it d.to q) (Some (n i)) (lookup (to_test.it q) (kept i)))))),
    )
