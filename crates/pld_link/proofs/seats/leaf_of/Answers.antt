use Rattle.std.proofs.Common.{◌≡◌, true, false, arith}
use Rattle.std.specs.Prelude.{bytes_eq}
use Rattle.pld_graph.specs.Design.{operator_at}
use Rattle.pld_link.proofs.Places.{leaf_found, leaf_none, most_at, none_more_operators}
use Rattle.pld_link.proofs.seats.leaf_of.Goals as goal

pub returns-then-is_same-clause-value : goal.returns-then-is_same-clause-value
returns-then-is_same-clause-value c =
    let same : bytes_eq (operator_at c.args.g.now.operators c.loop-k.k).name c.args.name.now ≡ true = cc in
    leaf_found c.args.g.now c.args.leaves.now c.args.name.now c.loop-k.k c.requires c.loop-k-test.true c.loop-k.invariant same

pub returns-then-is_same-clause-most : goal.returns-then-is_same-clause-most
returns-then-is_same-clause-most c = most_at c.args.g.now c.args.leaves.now c.loop-k.k c.requires c.loop-k-test.true

pub loop-k-preserved : goal.loop-k-preserved
loop-k-preserved c =
    let other : bytes_eq (operator_at c.args.g.now.operators c.loop-k.k).name c.args.name.now ≡ false = cc in
    none_more_operators c.args.g.now c.args.leaves.now c.args.name.now c.loop-k.k c.requires c.loop-k-test.true c.loop-k.invariant other

pub returns-clause-value : goal.returns-clause-value
returns-clause-value c = leaf_none c.args.g.now c.args.leaves.now c.args.name.now c.loop-k.k c.requires (omega arith) c.loop-k.invariant
