-- Why an edit isn't made, by what its parts tell.
use Rattle.pld_base.specs.declared.fault.SourceFault.{SourceFault}
use Rattle.pld_base.specs.declared.memory.Refused.{Refused}
use Rattle.pld_base.specs.declared.memory.Refused.TheVariants as refused
use Rattle.pld_graph.specs.declared.parts.GraphFault.{GraphFault}
use Rattle.pld_draft.specs.declared.parts.EditFault.{EditFault}
use Rattle.pld_draft.specs.declared.parts.EditFault.TheVariants as fault
use Rattle.pld_draft.specs.declared.parts.EditRefusal.TheVariants as refusal

abbrev pub graph_fault : Refused GraphFault → EditFault
graph_fault (refused.Fault why) = fault.Refused (refusal.Graph why)
graph_fault refused.NoMemory = fault.NoMemory

abbrev pub source_fault : Refused SourceFault → EditFault
source_fault (refused.Fault why) = fault.Refused (refusal.Source why)
source_fault refused.NoMemory = fault.NoMemory
