use Rattle.leaf_port.proofs.Leaves.{fresh_keeps, row_keeps, written_keeps, took_keeps, accepted_keeps, offered_keeps}
use Rattle.leaf_port.proofs.laws.moves_keep_window.Goals as goal

pub returns : goal.returns
returns c = record { fresh = fresh_keeps; row = row_keeps; write = written_keeps; read = took_keeps; accept = accepted_keeps; offer = offered_keeps }
