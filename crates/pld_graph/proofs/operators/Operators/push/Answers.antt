use Rattle.std.proofs.Common.{◌≡◌, ◌++◌, ◌∷◌, [], None, refl, ap, sym, subst, ◌∙◌}
use Rattle.pld_graph.specs.declared.operators.Counts.{Counts}
use Rattle.pld_graph.specs.Design.{place_from}
use Rattle.pld_graph.specs.Entries.{entry_of, listed}
use Rattle.pld_graph.specs.Masks.{IsMask}
use Rattle.pld_graph.proofs.Masks.{push_masked}
use Rattle.pld_graph.proofs.Named.{pushed}
use Rattle.pld_graph.proofs.operators.Operators.push.Goals as goal

pub invariant_of-self-2 : goal.invariant_of-self-2
invariant_of-self-2 c =
    let v : Counts = record { ins = c.args.ins; outs = c.args.outs; pin = None } in
    let es = c.self.inside.by_name.entries in
    let list = pushed c.args.name v es _ (subst (λ os. place_from 0 c.args.name os ≡ None) (sym c.self.view_is) c.requires.new) c.in_ok-insert.ensures.entries in
    subst (λ os. IsMask os c.self.inside.pinned) (sym list) (push_masked (listed es) c.self.inside.pinned (entry_of (c.args.name, v)) refl c.self.invariant)

pub returns : goal.returns
returns c =
    let v : Counts = record { ins = c.args.ins; outs = c.args.outs; pin = None } in
    pushed c.args.name v c.self.inside.by_name.entries _ (subst (λ os. place_from 0 c.args.name os ≡ None) (sym c.self.view_is) c.requires.new) c.in_ok-insert.ensures.entries
    ∙ ap (λ os. os ++ entry_of (c.args.name, v) ∷ []) c.self.view_is
