use Rattle.std.proofs.Common.{ℕ, arith}
use Rattle.std.proofs.lemmas.List.{length-take, length-drop}
use Rattle.pld_driver.proofs.Puts.{puts_more}
use Rattle.pld_driver.proofs.answers.put_all.Goals as goal

pub loop-done-preserved : goal.loop-done-preserved
loop-done-preserved g c = record {
  within = omega (arith, c.in_ok-count.ensures.bound, length-take {A = ℕ}, length-drop {A = ℕ});
  put = puts_more _ _ _ c.args.piece.now c.loop-done.done c.in_ok-count.count c.loop-done.invariant.put (c.in_ok-count.ensures.bytes.some (omega arith));
}
