use Rattle.std.specs.Prelude.{◌≡◌}
use Rattle.chain_plans.specs.Chains.{chain_pages}
use Rattle.chain_plans.proofs.pages.Given as goal

abbrev pub invariant-loop-k : goal.invariant-loop-k
invariant-loop-k l = l.pages.items ≡ chain_pages l.k l.image
