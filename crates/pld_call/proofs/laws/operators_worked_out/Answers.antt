use Rattle.pld_call.proofs.Rows.{twice_nodes, twice_does, clips_nodes, clips_does}
use Rattle.pld_call.proofs.laws.operators_worked_out.Goals as goal

pub returns-clause-twice_nodes : goal.returns-clause-twice_nodes
returns-clause-twice_nodes c = twice_nodes

pub returns-clause-twice : goal.returns-clause-twice
returns-clause-twice c = twice_does

pub returns-clause-clips_nodes : goal.returns-clause-clips_nodes
returns-clause-clips_nodes c = clips_nodes

pub returns-clause-clips : goal.returns-clause-clips
returns-clause-clips c = clips_does
