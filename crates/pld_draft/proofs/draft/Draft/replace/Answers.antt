use Rattle.std.proofs.Common.{refl, rules, arith, ◌<◌, length}
use Rattle.pld_draft.proofs.Keeps.{replace_kept, undone_kept, within}
use Rattle.pld_draft.proofs.draft.Draft.replace.Goals as goal

pub index_mut-requires : goal.index_mut-requires
index_mut-requires c =
    let h : c.in-Some.k < length c.self.inside.sources.items = within c.in-Some.k c.self.inside.graph c.self.inside.sources.items c.self.inside.feeds.items (search rules) c.self.invariant in
    omega (arith, h)

pub invariant_of-self-2 : goal.invariant_of-self-2
invariant_of-self-2 c =
    replace_kept c.args.name c.ins.result c.outs.result c.in-Some.k c.self.inside.graph c.replace.new.self _ c.self.inside.sources.items c.self.inside.feeds.items
    (search rules) (search rules) (search rules) (search rules) (search rules) c.self.invariant

pub invariant_of-self : goal.invariant_of-self
invariant_of-self c = undone_kept c.self.inside.graph c.replace.new.self c.self.inside.sources.items c.self.inside.sources.items c.self.inside.feeds.items (search rules) refl c.self.invariant
