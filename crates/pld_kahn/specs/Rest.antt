-- Families that single events reach over bounded channels, and those that have come to rest.
use Rattle.std.specs.Prelude.{◌≡◌, ℕ, List, [], ◌∷◌, ◌++◌, ◌⊎◌}
use Rattle.pld_base.specs.Prefix.{IsPrefixOf}
use Rattle.pld_base.specs.Events.{words_read}
use Rattle.pld_base.specs.Process.{TraceEnd, Returned, Starved, Trace}
use Rattle.pld_base.specs.Channels.{Node, OperatorNode, Family, read_words, written_words, KeepsWindow, IsFull, NodeEvent, family_of, AfterEach}
use Rattle.pld_base.specs.declared.event.Event.TheVariants.{Write}
use Rattle.pld_kahn.specs.Network.{Network, process_of}

-- the node's trace on the words that it has read
abbrev pub own_trace : Network → Family → Node → ℕ → Trace
own_trace net family node = process_of net node (words_read (family node))

-- each node's events begin its own trace
abbrev pub FollowsTraces : Network → Family → Type 0
FollowsTraces net family = (node : Node) → (turns : ℕ) × IsPrefixOf (family node) (own_trace net family node turns).events

-- a family that the network may have made
pub record IsConsistent (window : ℕ) (net : Network) (family : Family) : Type 0 where
  pub follows_traces : FollowsTraces net family
  pub keeps_window : KeepsWindow window net.wiring family

-- single events lead from the empty family to this one, and each family on the way is consistent
pub record IsReached (window : ℕ) (net : Network) (family : Family) : Type 0 where
  pub history : List NodeEvent
  pub each_consistent : AfterEach (IsConsistent window net) history
  pub ends_here : family_of history ≡ family

-- the node's own trace has just these events and this end
pub record HasEnded (net : Network) (family : Family) (node : Node) (end : TraceEnd) : Type 0 where
  pub turns : ℕ
  pub events : (own_trace net family node turns).events ≡ family node
  pub end_is : (own_trace net family node turns).end ≡ end

-- the node starves at an in-port, and has read all that was written to it
pub record IsAtEmpty (net : Network) (family : Family) (node : Node) (port : ℕ) : Type 0 where
  pub starved : HasEnded net family node (Starved port)
  pub all_read : read_words family node port ≡ written_words net.wiring family node port

-- the node's next event writes to an out-port whose channel is full
pub record IsAtFull (window : ℕ) (net : Network) (family : Family) (node : Node) (port : ℕ) : Type 0 where
  pub turns : ℕ
  pub word : ℕ
  pub next : IsPrefixOf (family node ++ Write (record { 0 = port }) word ∷ []) (own_trace net family node turns).events
  pub full : IsFull window net.wiring family node port

-- the node has returned, or stands at an empty port, or at a full one
pub data IsAtRest (window : ℕ) (net : Network) (family : Family) (node : Node) : Type 0 where
  Returns : HasEnded net family node Returned → IsAtRest window net family node
  At_empty : (port : ℕ) → IsAtEmpty net family node port → IsAtRest window net family node
  At_full : (port : ℕ) → IsAtFull window net family node port → IsAtRest window net family node

-- where a node at rest stands
pub data Standing : Type 0 where
  Over : Standing
  Empty_port : (port : ℕ) → Standing
  Full_port : (port : ℕ) → Standing

abbrev pub standing_of : {window : ℕ} {net : Network} {family : Family} {node : Node} → IsAtRest window net family node → Standing
standing_of (Returns ended) = Over
standing_of (At_empty port empty) = Empty_port port
standing_of (At_full port full) = Full_port port

-- a reached family in which nobody can go on
pub record IsRestFamily (window : ℕ) (net : Network) (family : Family) : Type 0 where
  pub consistent : IsConsistent window net family
  pub at_rest : (node : Node) → IsAtRest window net family node
  pub reached : IsReached window net family

-- each operator has returned or stands at an empty port
abbrev pub NoneAtFull : Network → Family → Type 0
NoneAtFull net family =
    (number : ℕ) → HasEnded net family (OperatorNode number) Returned ⊎ ((port : ℕ) × IsAtEmpty net family (OperatorNode number) port)
