use Rattle.std.proofs.Common.{◌≡◌, ℕ, ◌/◌, ◌%◌, ap, ◌∙◌, arith}
use Rattle.leaf_net.specs.Net.{below}
use Rattle.chain_plans.specs.Chains.{chain_row}
use Rattle.chain_plans.proofs.rows.Goals as goal

pub returns : goal.returns
returns c =
    let e : c.loop-i.i ≡ 1024 = omega (arith, c.loop-i-test.false, c.loop-i.auto.i-end) in
    c.loop-i.invariant ∙ ap (λ (k : ℕ). below k (λ i. chain_row c.args.n (i / 16) (i % 16))) e
