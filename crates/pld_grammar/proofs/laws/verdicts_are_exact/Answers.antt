use Rattle.pld_grammar.proofs.Faults.{verdict_says}
use Rattle.pld_grammar.proofs.laws.verdicts_are_exact.Goals as goal

pub returns : goal.returns
returns c = λ limit ts l. verdict_says limit ts l
