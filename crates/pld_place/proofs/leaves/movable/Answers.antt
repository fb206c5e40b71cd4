use Rattle.std.proofs.Common.{◌≡◌, ◌+◌, ◌-◌, ◌++◌, ◌∷◌, [], sym, ap, ◌∙◌, arith}
use Rattle.pld_place.proofs.Steps.{leaf_added, leaf_left}
use Rattle.pld_place.proofs.leaves.movable.Goals as goal
use Rattle.pld_place.proofs.leaves.movable.Goals.{then-not-is_among+in_ok-push, else-not-is_among}

pub loop-leaf-preserved : goal.loop-leaf-preserved
loop-leaf-preserved c =
    let least = c.loop-leaf.auto.leaf in
    let here : c.loop-leaf.leaf ≡ c.loop-leaf.leaf - 1 + 1 = omega (arith, least) in
    let next : c.loop-leaf.leaf + 1 - 1 ≡ c.loop-leaf.leaf - 1 + 1 = omega (arith, least) in
    elim c.if-not-is_among.branch [
      | then-not-is_among+in_ok-push w ↦ ap (λ v. v.items) w.leaves-is ∙ w.in_ok-push.ensures.items ∙ ap (λ xs. xs ++ c.loop-leaf.leaf ∷ []) c.loop-leaf.invariant
          ∙ sym (leaf_added c.args.pinned.now (c.loop-leaf.leaf - 1) c.loop-leaf.leaf _ here next (sym c.is_among.ensures ∙ w.if-not-is_among.true))
      | else-not-is_among w ↦ ap (λ v. v.items) w.leaves-is ∙ c.loop-leaf.invariant
          ∙ sym (leaf_left c.args.pinned.now (c.loop-leaf.leaf - 1) c.loop-leaf.leaf _ here next (sym c.is_among.ensures ∙ w.if-not-is_among.false))
    ]
