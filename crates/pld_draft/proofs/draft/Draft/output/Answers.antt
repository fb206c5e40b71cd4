use Rattle.pld_draft.proofs.Keeps.{output_kept}
use Rattle.pld_draft.proofs.draft.Draft.output.Goals as goal

pub invariant_of-self : goal.invariant_of-self
invariant_of-self c = output_kept _ _ _ _ _ _ _ c.output.ensures c.self.invariant

pub invariant_of-self-2 : goal.invariant_of-self-2
invariant_of-self-2 c = output_kept _ _ _ _ _ _ _ c.output.ensures c.self.invariant
