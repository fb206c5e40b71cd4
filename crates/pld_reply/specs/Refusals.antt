-- The texts of refusals.
use Rattle.std.specs.Prelude.{ℕ, List, ◌++◌, codes, decimal}
use Rattle.pld_base.specs.declared.event.End.{End}
use Rattle.pld_base.specs.declared.event.Side.{Side}
use Rattle.pld_base.specs.declared.event.Side.TheVariants.{In, Out}
use Rattle.pld_base.specs.declared.fault.FaultKind.{FaultKind}
use Rattle.pld_base.specs.declared.fault.FaultKind.TheVariants as fault
use Rattle.pld_base.specs.declared.fault.Limit.{Limit}
use Rattle.pld_base.specs.declared.fault.Limit.TheVariants as limit
use Rattle.pld_base.specs.declared.fault.SourceFault.{SourceFault}
use Rattle.pld_graph.specs.declared.parts.GraphFault.{GraphFault}
use Rattle.pld_graph.specs.declared.parts.GraphFault.TheVariants as graph
use Rattle.fabric_run.specs.Reply.{line_of}
use Rattle.pld_reply.specs.declared.refusals.Refusal.{Refusal}
use Rattle.pld_reply.specs.declared.refusals.Refusal.TheVariants as refusal

-- the limits of the language
abbrev pub limit_text : Limit → List ℕ
limit_text limit.Text = codes "Text"
limit_text limit.Ident = codes "Ident"
limit_text limit.Tokens = codes "Tokens"
limit_text limit.Nesting = codes "Nesting"
limit_text limit.Nodes = codes "Nodes"
limit_text limit.Scalars = codes "Scalars"
limit_text limit.Arrays = codes "Arrays"
limit_text limit.ArrayWords = codes "ArrayWords"
limit_text limit.InPorts = codes "InPorts"
limit_text limit.OutPorts = codes "OutPorts"

-- what is wrong with a text
abbrev pub kind_text : FaultKind → List ℕ
kind_text fault.BadToken = codes "BadToken"
kind_text fault.LiteralTooLarge = codes "LiteralTooLarge"
kind_text fault.Syntax = codes "Syntax"
kind_text fault.UnknownName = codes "UnknownName"
kind_text fault.NameTwice = codes "NameTwice"
kind_text fault.WrongKind = codes "WrongKind"
kind_text fault.WrongDirection = codes "WrongDirection"
kind_text fault.BadAsm = codes "BadAsm"
kind_text fault.OutOfRange = codes "OutOfRange"
kind_text (fault.TooLarge most) = codes "TooLarge(" ++ limit_text most ++ codes ")"

-- the fault of an operator's text, with its line and column there
abbrev pub source_text : SourceFault → List ℕ
source_text f = codes "Source " ++ kind_text f.kind ++ codes " " ++ decimal f.line ++ codes " " ++ decimal f.column

-- why a design can't be changed so
abbrev pub graph_text : GraphFault → List ℕ
graph_text graph.UnknownOperator = codes "UnknownOperator"
graph_text graph.UnknownPort = codes "UnknownPort"
graph_text graph.WrongDirection = codes "WrongDirection"
graph_text graph.PortTaken = codes "PortTaken"
graph_text graph.NameTaken = codes "NameTaken"
graph_text graph.LeafTaken = codes "LeafTaken"
graph_text graph.LeafRange = codes "LeafRange"
graph_text graph.NotLinked = codes "NotLinked"
graph_text graph.TooMany = codes "TooMany"
graph_text graph.LevelCount = codes "LevelCount"

abbrev pub side_text : Side → List ℕ
side_text In = codes ".i"
side_text Out = codes ".o"

-- a port as a session names it
abbrev pub end_text : End → List ℕ
end_text end = end.op ++ side_text end.side ++ decimal end.port.0

abbrev pub pages_text : ℕ → ℕ → List ℕ
pages_text operators pages = codes "TooFewPages " ++ decimal operators ++ codes " " ++ decimal pages

-- why a statement is refused
abbrev pub refusal_text : Refusal → List ℕ
refusal_text refusal.BadLine = codes "BadLine"
refusal_text (refusal.Source fault) = source_text fault
refusal_text (refusal.Graph fault) = graph_text fault
refusal_text refusal.TooManyWords = codes "TooManyWords"
refusal_text refusal.TooManyRuns = codes "TooManyRuns"
refusal_text refusal.Empty = codes "Empty"
refusal_text (refusal.OpenPort open_port) = codes "OpenPort " ++ end_text open_port.end
refusal_text (refusal.TooFewPages operators pages) = pages_text operators pages
refusal_text refusal.NotBuilt = codes "NotBuilt"
refusal_text refusal.NotRun = codes "NotRun"

-- the statement whose first line has this number is refused
abbrev pub refused_reply : ℕ → Refusal → List ℕ
refused_reply number why = line_of (codes "refused " ++ decimal number ++ codes " " ++ refusal_text why)
