use Rattle.pld_mean.proofs.Execs.{at_none, at_some}
use Rattle.pld_mean.proofs.exec.without_turns.Goals as goal

pub returns-then-eval-eq0 : goal.returns-then-eval-eq0
returns-then-eval-eq0 c = λ ins k. at_none _ _ _ _ (c.eval.ensures ins k) c.if-eval-eq0.true

pub returns-else-eval-eq0 : goal.returns-else-eval-eq0
returns-else-eval-eq0 c = λ ins k. at_some _ _ _ _ (c.eval.ensures ins k) c.if-eval-eq0.false
