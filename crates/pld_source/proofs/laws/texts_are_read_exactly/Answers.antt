use Rattle.pld_source.proofs.Readings.{all_read, all_faulty, reading_reads, reading_faulty}
use Rattle.pld_source.proofs.laws.texts_are_read_exactly.Goals as goal

pub returns-clause-read : goal.returns-clause-read
returns-clause-read c = all_read

pub returns-clause-reads : goal.returns-clause-reads
returns-clause-reads c = reading_reads

pub returns-clause-fault : goal.returns-clause-fault
returns-clause-fault c = all_faulty

pub returns-clause-faults : goal.returns-clause-faults
returns-clause-faults c = reading_faulty
