-- A design as a Kahn network, straight from its channels.
use Rattle.std.specs.Prelude.{ℕ, ◌==◌, Bool, ◌&&◌, List, option_map}
use Rattle.std.specs.List.{find}
use Rattle.pld_base.specs.Process.{Process}
use Rattle.pld_base.specs.Channels.{Node, OperatorNode, InputNode, OutputNode, OutPort, Wiring, same_node}
use Rattle.pld_kahn.specs.Network.{Network, network_of}
use Rattle.pld_graph.specs.declared.parts.FromEnd.{FromEnd}
use Rattle.pld_graph.specs.declared.parts.FromEnd.TheVariants as from_end
use Rattle.pld_graph.specs.declared.parts.ToEnd.{ToEnd}
use Rattle.pld_graph.specs.declared.parts.ToEnd.TheVariants as to_end
use Rattle.pld_graph.specs.Design.{Design, inputs, outputs}
use Rattle.pld_link.specs.Seats.{place_in, operator_names}

-- the out-port from which a channel comes; operators, inputs and outputs are numbered in the order of declaration
abbrev pub producer : Design → FromEnd → OutPort
producer d (from_end.Port e) = record { node = OperatorNode (place_in (operator_names d) e.op); port = e.port.0 }
producer d (from_end.Input name) = record { node = InputNode (place_in (inputs d.channels) name); port = 0 }

-- the channel goes to this in-port of this node
abbrev pub goes_to : Design → Node → ℕ → ToEnd → Bool
goes_to d node port (to_end.Port e) = same_node (OperatorNode (place_in (operator_names d) e.op)) node && (e.port.0 == port)
goes_to d node port (to_end.Output name) = same_node (OutputNode (place_in (outputs d.channels) name)) node && (0 == port)

-- an in-port is fed by the producing end of the channel that goes there
abbrev pub wiring : Design → Wiring
wiring d node port = option_map (λ c. producer d c.from) (find (λ c. goes_to d node port c.to) d.channels)

-- the network of a design whose operators are these processes, and whose inputs have these words
abbrev pub design_network : Design → List Process → List (List ℕ) → Network
design_network d operators feeds = network_of operators feeds (wiring d)
