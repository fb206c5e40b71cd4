use Rattle.rv_back.proofs.Realised.{code_realises, code_never_traps, code_writes_words}
use Rattle.rv_back.proofs.laws.code_keeps_the_meaning.Goals as goal

pub returns-clause-realises : goal.returns-clause-realises
returns-clause-realises c = code_realises

pub returns-clause-never_traps : goal.returns-clause-never_traps
returns-clause-never_traps c = code_never_traps

pub returns-clause-writes_words : goal.returns-clause-writes_words
returns-clause-writes_words c = code_writes_words
