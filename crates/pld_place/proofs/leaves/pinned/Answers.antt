use Rattle.std.proofs.Common.{ap, ◌∙◌, rules}
use Rattle.pld_place.proofs.Steps.{pin_added, pin_left}
use Rattle.pld_place.proofs.leaves.pinned.Goals as goal
use Rattle.pld_place.proofs.leaves.pinned.Goals.{in-Some+in_ok-push, in_default}

pub loop-pin-preserved : goal.loop-pin-preserved
loop-pin-preserved c = elim c.match-pin.branch [
  | in-Some+in_ok-push w ↦ pin_added c.args.pins.now c.loop-pin.pin-index c.loop-pin.leaves.items _ _ c.loop-pin.invariant (ap (λ v. v.items) w.leaves-is ∙ w.in_ok-push.ensures.items) (search rules)
  | in_default w ↦ pin_left c.args.pins.now c.loop-pin.pin-index c.loop-pin.leaves.items _ c.loop-pin.invariant (ap (λ v. v.items) w.leaves-is) (search rules)
]
