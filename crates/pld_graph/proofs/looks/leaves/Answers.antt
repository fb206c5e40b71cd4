use Rattle.std.proofs.Common.{◌≤◌, ◌^◌, arith}
use Rattle.std.proofs.Math.Pow.{pow_mono}
use Rattle.pld_graph.proofs.looks.leaves.Goals as goal

pub returns-clause-most : goal.returns-clause-most
returns-clause-most c = let b : 2 ^ c.args.depth ≤ 2 ^ 6 = pow_mono c.requires in omega (arith, b)
