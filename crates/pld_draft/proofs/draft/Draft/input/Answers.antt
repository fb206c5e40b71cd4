use Rattle.std.proofs.Common.{rules, []}
use Rattle.pld_draft.specs.declared.parts.Feed.{Feed}
use Rattle.pld_draft.proofs.Keeps.{input_kept}
use Rattle.pld_draft.proofs.draft.Draft.input.Goals as goal

pub invariant_of-self-2 : goal.invariant_of-self-2
invariant_of-self-2 c =
    let f : Feed = record { name = c.args.name; words = [] } in
    input_kept c.args.name c.args.to c.self.inside.graph c.input.new.self f c.self.inside.sources.items c.self.inside.feeds.items _ (search rules) (search rules) (search rules) (search rules) c.self.invariant
