use Rattle.std.proofs.Common.{rules}
use Rattle.pld_draft.proofs.Keeps.{op_kept}
use Rattle.pld_draft.specs.declared.parts.Source.{Source}
use Rattle.pld_draft.proofs.draft.Draft.op.Goals as goal

pub invariant_of-self-2 : goal.invariant_of-self-2
invariant_of-self-2 c =
    let s : Source = record { kind = c.args.kind; text = c.args.text; operator = c.in_ok-operator.operator } in
    op_kept c.args.name c.ins.result c.outs.result c.self.inside.graph c.add.new.self s c.self.inside.sources.items _ c.self.inside.feeds.items
    (search rules) (search rules) (search rules) (search rules) (search rules) c.self.invariant
