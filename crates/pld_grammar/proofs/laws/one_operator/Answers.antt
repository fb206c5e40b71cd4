use Rattle.pld_grammar.proofs.Unique.{one_syntax}
use Rattle.pld_grammar.proofs.laws.one_operator.Goals as goal

pub returns : goal.returns
returns c = λ ts a b s t. one_syntax s t
