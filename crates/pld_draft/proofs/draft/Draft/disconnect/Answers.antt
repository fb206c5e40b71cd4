use Rattle.std.proofs.Common.{refl, rules}
use Rattle.pld_draft.proofs.Keeps.{disconnect_kept, undone_kept}
use Rattle.pld_draft.proofs.draft.Draft.disconnect.Goals as goal

pub invariant_of-self-2 : goal.invariant_of-self-2
invariant_of-self-2 c = disconnect_kept c.args.what c.self.inside.graph c.disconnect.new.self c.self.inside.sources.items c.self.inside.feeds.items _ (search rules) (search rules) (search rules) c.self.invariant

pub invariant_of-self : goal.invariant_of-self
invariant_of-self c = undone_kept c.self.inside.graph c.disconnect.new.self c.self.inside.sources.items c.self.inside.sources.items c.self.inside.feeds.items (search rules) refl c.self.invariant
