use Rattle.std.proofs.Common.{◌∙◌, ap, sym, rules}
use Rattle.pld_link.proofs.Changed.{none_yet, then_added, then_left}
use Rattle.pld_link.proofs.relink.changes.Goals as goal
use Rattle.pld_link.proofs.relink.changes.Goals.{then-not-is_same+in_ok-push, else-not-is_same}

pub loop-k-init : goal.loop-k-init
loop-k-init c = c.new-entries.ensures.items ∙ none_yet c.args.old.now c.args.new.now 16

pub loop-k-preserved : goal.loop-k-preserved
loop-k-preserved c = elim c.if-not-is_same.branch [
  | then-not-is_same+in_ok-push w ↦ then_added c.args.old.now c.args.new.now c.loop-k.k c.loop-k.entries.items _ _ c.loop-k.auto.k c.loop-k.invariant
      (sym c.is_same.ensures ∙ w.if-not-is_same.true) (ap (λ v. v.items) w.entries-is ∙ w.in_ok-push.ensures.items) (search rules)
  | else-not-is_same w ↦ then_left c.args.old.now c.args.new.now c.loop-k.k c.loop-k.entries.items _ c.loop-k.auto.k c.loop-k.invariant
      (sym c.is_same.ensures ∙ w.if-not-is_same.false) (ap (λ v. v.items) w.entries-is)
]
