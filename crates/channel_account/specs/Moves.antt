-- The moves of a network: when each may be made, and the network after it. Beside them what the account tells of a channel.
use Rattle.std.specs.Prelude.{◌≡◌, ℕ, ◌<◌, ◌≤◌, true, List, [], ◌∷◌, ◌++◌, length, Option, Some}
use Rattle.net_switch.specs.declared.packet.Stamp.{Stamp}
use Rattle.net_switch.specs.declared.packet.Packet.{Packet}
use Rattle.net_switch.specs.declared.packet.Body.TheVariants.{Data, Credit}
use Rattle.leaf_port.specs.declared.tables.ConfigEntry.{ConfigEntry}
use Rattle.leaf_port.specs.Leaf.{LeafState, IsLeaf, can_write, next_word, accepted, offered, CanArrive}
use Rattle.channel_account.specs.Network.{Rows, Node, Net, Ends, IsLink, IsLinked, IsFresh, SamePackets, data_packet, credit_packet, put, node_wrote, node_took, with_leaf, under_after, under_left}

pub data Move : Type 0 where
  -- a leaf's page writes this word to an out-port
  Writes : (leaf port word : ℕ) → Move
  -- a leaf's page reads this word from an in-port
  Reads : (leaf port word : ℕ) → Move
  -- in this round, and with this configuration entry, a leaf offers a packet, or none
  Offers : (leaf round : ℕ) → Option ConfigEntry → Move
  -- a packet arrives at a leaf, and these others are under way
  Accepts : (leaf : ℕ) → Packet → List Packet → Move
  -- packets go from link to link, and are then in this order
  Carries : List Packet → Move

abbrev pub leaf_of : Net → ℕ → LeafState
leaf_of n leaf = (n.nodes leaf).leaf

-- a packet under way may arrive at this leaf, and these others are left
pub record MayAccept (n : Net) (leaf : ℕ) (p : Packet) (rest : List Packet) : Type 0 where
  pub own : (leaf_of n leaf).own ≡ leaf
  pub sound : IsLeaf (leaf_of n leaf)
  pub arrives : p.to.0 ≡ (leaf_of n leaf).own → CanArrive (leaf_of n leaf) p.body
  pub under : SamePackets n.under (p ∷ rest)

-- a write asks for a credit, a read for the next word, and an offer for rows that are those of the tables
abbrev pub May : Rows → Net → Move → Type 0
May tables n (Writes leaf port word) = (port < length (leaf_of n leaf).outs) × (can_write (leaf_of n leaf) port ≡ true)
May tables n (Reads leaf port word) = (port < length (leaf_of n leaf).ins) × (next_word (leaf_of n leaf) port ≡ Some word)
May tables n (Offers leaf round config) = IsLeaf (leaf_of n leaf) × IsLinked tables leaf (leaf_of n leaf)
May tables n (Accepts leaf p rest) = MayAccept n leaf p rest
May tables n (Carries under) = SamePackets under n.under

abbrev pub with_node : Net → ℕ → Node → Net
with_node n leaf x = record n { nodes = put n.nodes leaf x }

-- a leaf becomes this one, and these packets are under way
abbrev pub leaf_changed : Net → ℕ → LeafState → List Packet → Net
leaf_changed n leaf s under = record { nodes = put n.nodes leaf (with_leaf (n.nodes leaf) s); under = under }

-- a leaf that has made an offer
abbrev pub with_offer : Net → ℕ → LeafState × Option Packet → Net
with_offer n leaf offer = leaf_changed n leaf offer.0 (under_after (leaf_of n leaf).back offer.1 n.under)

-- the network after a move
abbrev pub after : Net → Move → Net
after n (Writes leaf port word) = with_node n leaf (node_wrote port word (n.nodes leaf))
after n (Reads leaf port word) = with_node n leaf (node_took port word (n.nodes leaf))
after n (Offers leaf round config) = with_offer n leaf (offered (leaf_of n leaf) round config)
after n (Accepts leaf p rest) = leaf_changed n leaf (accepted (leaf_of n leaf) p) (under_left (leaf_of n leaf) p rest)
after n (Carries under) = record n { under = under }

-- both ends of each channel are as a run begins
abbrev pub AreFresh : ℕ → Rows → (ℕ → Node) → Type 0
AreFresh window tables nodes = (e : Ends) → IsLink tables e → IsFresh window (nodes e.from) × IsFresh window (nodes e.to)

-- the network as a run begins
abbrev pub nothing_under_way : (ℕ → Node) → Net
nothing_under_way nodes = record { nodes = nodes; under = [] }

-- a word and a credit that are under way to an end of this channel may arrive there
pub record MayArrive (n : Net) (e : Ends) : Type 0 where
  pub word : (number w : ℕ) (stamp : Stamp) (rest : List Packet) → SamePackets n.under (data_packet stamp e.to e.inn number w ∷ rest) → CanArrive (leaf_of n e.to) (Data (record { 0 = e.inn }) number w)
  pub credit : (count : ℕ) (stamp : Stamp) (rest : List Packet) → SamePackets n.under (credit_packet stamp e.from e.out count ∷ rest) → CanArrive (leaf_of n e.from) (Credit (record { 0 = e.out }) count)

-- the words that were read are the first ones that were written, in order, and at most a window of words are unread
pub record IsReadInOrder (window : ℕ) (n : Net) (e : Ends) : Type 0 where
  pub unread : List ℕ
  pub written : (n.nodes e.from).written e.out ≡ (n.nodes e.to).read e.inn ++ unread
  pub few : length unread ≤ window
