use Rattle.std.proofs.Common.{ℕ, arith}
use Rattle.std.proofs.lemmas.List.{length-take, length-drop}
use Rattle.pld_driver.proofs.Puts.{puts_more, puts_part}
use Rattle.pld_driver.proofs.answers.put_lines.Goals as goal

pub returns-in-Err-clause-err : goal.returns-in-Err-clause-err
returns-in-Err-clause-err g c =
    puts_part _ _ _ c.args.text.now c.loop-done.done c.line_len-len.result c.loop-done.invariant.put c.in-Err.ensures.err

pub loop-done-preserved : goal.loop-done-preserved
loop-done-preserved g c = record {
  within = omega (arith, c.line_len-len.ensures.within, length-take {A = ℕ}, length-drop {A = ℕ});
  put = puts_more _ _ _ c.args.text.now c.loop-done.done c.line_len-len.result c.loop-done.invariant.put c.in-Ok.ensures.ok;
}
