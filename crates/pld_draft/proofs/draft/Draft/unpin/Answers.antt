use Rattle.pld_draft.proofs.Keeps.{unpin_kept}
use Rattle.pld_draft.proofs.draft.Draft.unpin.Goals as goal

pub invariant_of-self : goal.invariant_of-self
invariant_of-self c = unpin_kept _ _ _ _ _ _ c.unpin.ensures c.self.invariant

pub invariant_of-self-2 : goal.invariant_of-self-2
invariant_of-self-2 c = unpin_kept _ _ _ _ _ _ c.unpin.ensures c.self.invariant
