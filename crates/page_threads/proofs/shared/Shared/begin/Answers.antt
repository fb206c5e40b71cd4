use Rattle.std.proofs.Common.{refl, rules}
use Rattle.page_threads.proofs.Carrying.{over_now}
use Rattle.page_threads.proofs.shared.Shared.begin.Goals as goal

pub returns-then-is_some-clause-began : goal.returns-then-is_some-clause-began
returns-then-is_some-clause-began c = (refl, over_now c.args.self.now.fabric c.over.result c.over.ensures (search rules) c.is_legal.ensures.legal)
