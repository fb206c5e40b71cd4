use Rattle.std.specs.Prelude.{◌≡◌, ◌/◌, ◌%◌}
use Rattle.leaf_net.specs.Net.{below}
use Rattle.chain_plans.specs.Chains.{chain_row}
use Rattle.chain_plans.proofs.rows.Given as goal

abbrev pub invariant-loop-i : goal.invariant-loop-i
invariant-loop-i l = l.rows.items ≡ below l.i (λ i. chain_row l.n (i / 16) (i % 16))
