use Rattle.std.proofs.Common.{◌≡◌, ◌∙◌, ap, [], ◌∷◌, ◌++◌}
use Rattle.pld_parse.proofs.Blocks.{chain_more}
use Rattle.pld_parse.proofs.statement.chain.Goals as goal

pub loop-arm-preserved : goal.loop-arm-preserved
loop-arm-preserved c =
    let e : c.push.new.self ≡ c.loop-arm.statement ∷ [] = c.in_ok-push.ensures.ok ∙ ap (λ x. x ++ c.loop-arm.statement ∷ []) c.new-otherwise.ensures in
    rw e (chain_more c.loop-arm.left c.pop.new.self c.in-Some.arm c.loop-arm.statement _ c.loop-arm.invariant c.in-Some.ensures)
