use Rattle.pld_source.proofs.Filled.{filled}
use Rattle.pld_source.proofs.Readings.{checked_read, refused_read}
use Rattle.pld_source.proofs.read.read_tokens.Goals as goal

pub checked-requires : goal.checked-requires
checked-requires c = filled c.in-Ok.ensures.found.0

pub returns-in-Ok : goal.returns-in-Ok
returns-in-Ok c = record { exact = checked_read c.args.text.now c.args.tokens.now c.in-Ok.op c.requires c.in-Ok.ensures.found.0 c.in-Ok.ensures.found.1 c.checked.result c.checked.ensures }

pub returns-in-Err : goal.returns-in-Err
returns-in-Err c = record { exact = refused_read c.args.text.now c.args.tokens.now c.place_behind.result c.requires c.place_behind.ensures c.in-Err.refused c.in-Err.ensures.fault }
