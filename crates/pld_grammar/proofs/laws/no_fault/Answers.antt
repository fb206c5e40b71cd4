use Rattle.pld_grammar.proofs.Parse as parse
use Rattle.pld_grammar.proofs.laws.no_fault.Goals as goal

pub returns : goal.returns
returns c = λ limit n k ts op f s w. parse.no_fault limit n k ts op f s w
