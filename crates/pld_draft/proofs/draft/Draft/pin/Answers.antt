use Rattle.pld_draft.proofs.Keeps.{pin_kept}
use Rattle.pld_draft.proofs.draft.Draft.pin.Goals as goal

pub invariant_of-self : goal.invariant_of-self
invariant_of-self c = pin_kept _ _ _ _ _ _ _ c.pin.ensures c.self.invariant

pub invariant_of-self-2 : goal.invariant_of-self-2
invariant_of-self-2 c = pin_kept _ _ _ _ _ _ _ c.pin.ensures c.self.invariant
