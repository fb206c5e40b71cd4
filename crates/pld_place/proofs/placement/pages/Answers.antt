use Rattle.std.proofs.Common.{◌≤◌, ◌^◌, arith}
use Rattle.std.proofs.Math.Pow.{pow_mono}
use Rattle.pld_place.proofs.placement.pages.Goals as goal

pub returns-clause-most : goal.returns-clause-most
returns-clause-most c = let b : 2 ^ c.depth.result ≤ 2 ^ 6 = pow_mono c.depth.ensures.most in omega (arith, b)
