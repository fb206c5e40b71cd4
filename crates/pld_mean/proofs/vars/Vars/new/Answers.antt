use Rattle.pld_mean.proofs.States.{at_start}
use Rattle.pld_mean.proofs.vars.Vars.new.Goals as goal

pub returns-clause-state : goal.returns-clause-state
returns-clause-state c = λ ins.
    at_start ins (record { scalars = c.in_ok-scalars.scalars; arrays = c.in_ok-arrays.arrays; read = c.in_ok-read.read; events = c.new.result }) c.as_slice.result.now c.len.result c.count_ports.result c.in_ok-scalars.ensures c.in_ok-arrays.ensures.words c.in_ok-read.ensures c.new.ensures.items
