use Rattle.pld_base.proofs.Histories.{read_keeps_window, write_keeps_window}
use Rattle.pld_base.proofs.process.single_events_keep_window.Goals as goal

pub returns-clause-read : goal.returns-clause-read
returns-clause-read c window wiring before node port word keeps next = read_keeps_window window wiring before keeps node port word next

pub returns-clause-write : goal.returns-clause-write
returns-clause-write c window wiring before node port word keeps room = write_keeps_window window wiring before keeps node port word room
