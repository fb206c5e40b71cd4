use Rattle.pld_draft.proofs.Keeps.{connect_kept}
use Rattle.pld_draft.proofs.draft.Draft.connect.Goals as goal

pub invariant_of-self : goal.invariant_of-self
invariant_of-self c = connect_kept _ _ _ _ _ _ _ c.connect.ensures c.self.invariant

pub invariant_of-self-2 : goal.invariant_of-self-2
invariant_of-self-2 c = connect_kept _ _ _ _ _ _ _ c.connect.ensures c.self.invariant
