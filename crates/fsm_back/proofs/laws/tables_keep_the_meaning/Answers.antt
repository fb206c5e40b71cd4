use Rattle.fsm_back.proofs.Realised.{table_realises, table_never_traps, table_writes_words}
use Rattle.fsm_back.specs.Table.{gen_hard}
use Rattle.fsm_back.proofs.laws.tables_keep_the_meaning.Goals as goal

pub returns-clause-realises : goal.returns-clause-realises
returns-clause-realises c = table_realises

pub returns-clause-writes_words : goal.returns-clause-writes_words
returns-clause-writes_words c = table_writes_words

pub returns-clause-never_traps : goal.returns-clause-never_traps
returns-clause-never_traps c = λ g sound. table_never_traps (gen_hard g)
