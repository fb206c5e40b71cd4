use Rattle.pld_check.specs.Faults.{wrong_names}
use Rattle.pld_check.proofs.Leasts.{least_first, least_none, use_declared}
use Rattle.pld_check.proofs.laws.first_wrong_names.Goals as goal

pub returns-clause-first : goal.returns-clause-first
returns-clause-first c = λ op f e. least_first (wrong_names op) f e

pub returns-clause-none : goal.returns-clause-none
returns-clause-none c = λ op e. least_none (wrong_names op) e

pub returns-clause-declared : goal.returns-clause-declared
returns-clause-declared c = use_declared
