-- Events of operators and of the host, over channels with a bounded window.
use Rattle.std.specs.Prelude.{◌≡◌, ℕ, ◌+◌, ◌≤◌, List, [], ◌∷◌, ◌++◌, length, Option, Some, None, Bool, false, ◌==◌, if◌then◌else◌}
use Rattle.pld_base.specs.Prefix.{IsPrefixOf}
use Rattle.pld_base.specs.Events.{words_read, words_written}
use Rattle.pld_base.specs.declared.event.Event.{Event}

-- who takes part: the operators, and the host's inputs and outputs
pub data Node : Type 0 where
  OperatorNode : (number : ℕ) → Node
  InputNode : (number : ℕ) → Node
  OutputNode : (number : ℕ) → Node

pub record OutPort : Type 0 where
  pub node : Node
  pub port : ℕ

-- for each in-port the out-port that is joined to it by a channel, if any; the host's nodes have the one port 0
abbrev pub Wiring : Type 0
Wiring = Node → ℕ → Option OutPort

-- no out-port is in two channels
abbrev pub IsPointToPoint : Wiring → Type 0
IsPointToPoint wiring =
    (node other : Node) (port port' : ℕ) (out : OutPort) → wiring node port ≡ Some out → wiring other port' ≡ Some out → (node ≡ other) × (port ≡ port')

-- the words at each port of each node
abbrev pub Words : Type 0
Words = Node → ℕ → List ℕ

abbrev pub words_from : Option OutPort → Words → List ℕ
words_from None words = []
words_from (Some out) words = words out.node out.port

-- the words on the channel into each in-port, where these are the words at the out-ports
abbrev pub channel_words : Wiring → Words → Words
channel_words wiring words node port = words_from (wiring node port) words

-- a family gives each node a list of events
abbrev pub Family : Type 0
Family = Node → List Event

-- the words read at each in-port
abbrev pub read_words : Family → Words
read_words family node = words_read (family node)

-- the words written on the channel into each in-port
abbrev pub written_words : Wiring → Family → Words
written_words wiring family = channel_words wiring (λ node. words_written (family node))

-- on each channel the words read are the first ones written, and no more words than the window has are unread
pub record KeepsWindow (window : ℕ) (wiring : Wiring) (family : Family) : Type 0 where
  pub in_order : (node : Node) (port : ℕ) → IsPrefixOf (read_words family node port) (written_words wiring family node port)
  pub within : (node : Node) (port : ℕ) → length (written_words wiring family node port) ≤ window + length (read_words family node port)

-- a whole window of words is unread on the channel out of this out-port
pub record IsFull (window : ℕ) (wiring : Wiring) (family : Family) (node : Node) (port : ℕ) : Type 0 where
  pub reader : Node
  pub reader_port : ℕ
  pub joined : wiring reader reader_port ≡ Some (record { node = node; port = port })
  pub unread : length (written_words wiring family reader reader_port) ≡ window + length (read_words family reader reader_port)

-- an event with the node that makes it
pub record NodeEvent : Type 0 where
  pub node : Node
  pub event : Event

abbrev pub same_node : Node → Node → Bool
same_node (OperatorNode k) (OperatorNode l) = k == l
same_node (InputNode k) (InputNode l) = k == l
same_node (OutputNode k) (OutputNode l) = k == l
same_node _ _ = false

-- the events of each node in a history, in which the newest event stands first
abbrev pub family_of : List NodeEvent → Family
family_of [] node = []
family_of (newest ∷ before) node =
    if same_node newest.node node then family_of before node ++ newest.event ∷ [] else family_of before node

-- what holds of the family after each single event of a history
abbrev pub AfterEach : (Family → Type 0) → List NodeEvent → Type 0
AfterEach Holds [] = Unit {0}
AfterEach Holds (newest ∷ before) = AfterEach Holds before × Holds (family_of (newest ∷ before))
