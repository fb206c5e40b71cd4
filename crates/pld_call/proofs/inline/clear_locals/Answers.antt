use Rattle.std.proofs.Common.{◌+◌, ◌-◌, ◌++◌, ap, ◌∙◌}
use Rattle.std.specs.Prelude.{replicate}
use Rattle.pld_ast.specs.declared.tree.Ty.TheVariants.{Int}
use Rattle.pld_ast.specs.declared.tree.Expr.TheVariants.{Lit}
use Rattle.pld_call.specs.Trees.{given_from}
use Rattle.pld_call.proofs.Givings.{more_zeroed}
use Rattle.pld_call.proofs.inline.clear_locals.Goals as goal

pub loop-k-preserved : goal.loop-k-preserved
loop-k-preserved c =
    ap (λ l. l ++ given_from c.args.at (c.args.first + (c.loop-k.k + 1)) (replicate (c.args.many - (c.loop-k.k + 1)) (Lit 0 Int))) c.in_ok-push.ensures.ok
    ∙ more_zeroed c.args.at c.args.many c.loop-k.k c.args.first c.assign_scalar.result c.loop-k.made (given_from c.args.at c.args.first (replicate c.args.many (Lit 0 Int))) c.loop-k.invariant c.loop-k-test.true c.assign_scalar.ensures
