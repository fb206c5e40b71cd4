use Rattle.std.proofs.Common.{length, sym, ap, ◌∙◌, subst}
use Rattle.std.specs.Prelude.{IfSome}
use Rattle.pld_graph.specs.Sound.{IsSound}
use Rattle.pld_session.specs.States.{BuildValue, IsBuild}
use Rattle.pld_session.proofs.Running.{leaves_many, many}
use Rattle.pld_session.proofs.session.Session.dump_tables.Goals as goal

pub placed_pages-requires-clause-leaves : goal.placed_pages-requires-clause-leaves
placed_pages-requires-clause-leaves c =
    let d = c.self.inside.draft in
    let built = subst (λ o. IfSome o (λ made. IsBuild d made)) c.in-Some.is c.self.invariant.3 in
    let sound = subst (λ g. IsSound g) c.graph-graph.ensures c.operators-operators.ensures.sound in
    sym (many (λ p. p.0) c.leaf_of-leaves.result.now) ∙ ap length (c.leaf_of-leaves.ensures ∙ ap (λ (b : BuildValue). b.leaves) c.build.view_is)
    ∙ leaves_many c.operators_have_leaves.ensures d c.in-Some.build c.sources.ensures.kept sound built ∙ sym (ap (λ g. length g.operators) c.graph-graph.ensures)
