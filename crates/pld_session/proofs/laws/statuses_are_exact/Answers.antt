use Rattle.pld_driver.proofs.Endings.{exact_of}
use Rattle.pld_session.specs.States.{at_first}
use Rattle.pld_session.specs.Answers.{answer}
use Rattle.pld_session.proofs.laws.statuses_are_exact.Goals as goal

pub returns : goal.returns
returns c = λ order rounds before after result ends. exact_of answer (at_first rounds) before after ends.taken result ends.told
