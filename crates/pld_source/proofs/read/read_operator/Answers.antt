use Rattle.pld_source.proofs.Readings.{unspelled_read}
use Rattle.pld_source.proofs.read.read_operator.Goals as goal

pub returns-in-Err : goal.returns-in-Err
returns-in-Err c = record { exact = unspelled_read c.args.text.now c.in-Err.refused c.in-Err.ensures.exact }
