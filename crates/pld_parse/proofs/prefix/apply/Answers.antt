use Rattle.pld_parse.proofs.Prefixes.{apply_more}
use Rattle.pld_parse.proofs.prefix.apply.Goals as goal

pub loop-form-preserved : goal.loop-form-preserved
loop-form-preserved c = rw c.in_ok-value.ensures (apply_more c.loop-form.left c.pop.new.self c.in-Some.form c.loop-form.value _ c.loop-form.invariant c.in-Some.ensures)
