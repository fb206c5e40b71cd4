use Rattle.std.proofs.Common.{[], arith}
use Rattle.pld_draft.proofs.Keeps.{words_kept}
use Rattle.pld_draft.proofs.draft.Draft.clear.Goals as goal

pub invariant_of-self : goal.invariant_of-self
invariant_of-self c = words_kept c.args.name (λ old. []) _ _ _ _ c.empty.ensures (omega arith) c.self.invariant
