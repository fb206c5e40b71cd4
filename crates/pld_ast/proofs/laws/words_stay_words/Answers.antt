use Rattle.pld_ast.proofs.WordLaws.{value_word, trace_words}
use Rattle.pld_ast.proofs.laws.words_stay_words.Goals as goal

pub returns-clause-value : goal.returns-clause-value
returns-clause-value c = value_word

pub returns-clause-written : goal.returns-clause-written
returns-clause-written c = trace_words
