use Rattle.std.proofs.Common.{refl, rules, arith, ◌<◌, length}
use Rattle.pld_draft.proofs.Keeps.{remove_kept, undone_kept, within}
use Rattle.pld_draft.proofs.draft.Draft.remove.Goals as goal

pub remove-requires-2 : goal.remove-requires-2
remove-requires-2 c =
    let h : c.in-Some.k < length c.self.inside.sources.items = within c.in-Some.k c.self.inside.graph c.self.inside.sources.items c.self.inside.feeds.items (search rules) c.self.invariant in
    omega (arith, h)

pub invariant_of-self-2 : goal.invariant_of-self-2
invariant_of-self-2 c =
    remove_kept c.args.name c.in-Some.k c.self.inside.graph c.remove.new.self c.self.inside.sources.items _ c.self.inside.feeds.items _ (search rules) (search rules) c.remove-2.ensures.items (search rules) (search rules) c.self.invariant

pub invariant_of-self : goal.invariant_of-self
invariant_of-self c = undone_kept c.self.inside.graph c.remove.new.self c.self.inside.sources.items c.self.inside.sources.items c.self.inside.feeds.items (search rules) refl c.self.invariant
