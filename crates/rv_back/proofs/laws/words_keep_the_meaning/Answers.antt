use Rattle.rv_back.proofs.Ranged.{code_ranged}
use Rattle.rv_back.proofs.Worded.{words_in_range, words_realise, words_never_trap, words_write_words}
use Rattle.rv_back.proofs.laws.words_keep_the_meaning.Goals as goal

pub returns-clause-instructions : goal.returns-clause-instructions
returns-clause-instructions c = code_ranged

pub returns-clause-in_range : goal.returns-clause-in_range
returns-clause-in_range c = words_in_range

pub returns-clause-realises : goal.returns-clause-realises
returns-clause-realises c = words_realise

pub returns-clause-never_traps : goal.returns-clause-never_traps
returns-clause-never_traps c = words_never_trap

pub returns-clause-writes_words : goal.returns-clause-writes_words
returns-clause-writes_words c = words_write_words
