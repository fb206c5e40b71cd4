use Rattle.pld_base.proofs.Machines.{machine_laws}
use Rattle.pld_base.proofs.process.machines_are_processes.Goals as goal

pub returns : goal.returns
returns g c next state = machine_laws next state
