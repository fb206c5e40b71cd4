use Rattle.pld_grammar.proofs.Parse as parse
use Rattle.pld_grammar.proofs.laws.one_fault.Goals as goal

pub returns : goal.returns
returns c = λ limit n m k l ts f g. parse.one_fault limit n m k l ts f g
