-- A network: its leaves with what happened at them, and the packets under way. Nothing is said of how
-- these move.
use Rattle.std.specs.Prelude.{◌≡◌, ℕ, ◌+◌, ◌<◌, if◌then◌else◌, ◌==◌, List, [], ◌∷◌, ◌++◌, replicate, Option, Some, None, slice_get}
use Rattle.net_switch.specs.declared.packet.Row.{Row}
use Rattle.std.specs.List.{sum_by}
use Rattle.net_switch.specs.declared.packet.Stamp.{Stamp}
use Rattle.net_switch.specs.declared.packet.Packet.{Packet}
use Rattle.net_switch.specs.declared.packet.Body.{Body}
use Rattle.net_switch.specs.declared.packet.Body.TheVariants.{Data, Credit, Config}
use Rattle.leaf_port.specs.declared.ports.Waiting.{Waiting}
use Rattle.leaf_port.specs.Ports.{fresh_in}
use Rattle.leaf_port.specs.Leaf.{LeafState, row_of, out_port, in_port, fresh_out, wrote, took}
use Rattle.channel_account.specs.Account.{Numbered, Channel, IsAccount}

-- for each leaf and slot, the other end of the slot's channel, if it has one
abbrev pub Rows : Type 0
Rows = ℕ → ℕ → Option Row

-- a leaf, and the words that were written and read at each of its ports
pub record Node : Type 0 where
  pub leaf : LeafState
  pub written : ℕ → List ℕ
  pub read : ℕ → List ℕ

-- the leaves, and the packets under way: those on links, and those that leaves are to send back
pub record Net : Type 0 where
  pub nodes : ℕ → Node
  pub under : List Packet

-- the two ends of a channel
pub record Ends : Type 0 where
  pub from : ℕ
  pub out : ℕ
  pub to : ℕ
  pub inn : ℕ

-- the words of out-port k that wait
abbrev pub words_of : ℕ → List Waiting → List Numbered
words_of k [] = []
words_of k (w ∷ ws) = if w.port == k then (w.number, w.word) ∷ words_of k ws else words_of k ws

-- the words that a packet brings to in-port j of leaf m, and the credits that it brings to out-port k
abbrev pub body_words : ℕ → Body → List Numbered
body_words j (Data i number word) = if i.0 == j then (number, word) ∷ [] else []
body_words j (Credit i count) = []
body_words j (Config slot row) = []

abbrev pub body_credits : ℕ → Body → List ℕ
body_credits k (Data i number word) = []
body_credits k (Credit i count) = if i.0 == k then count ∷ [] else []
body_credits k (Config slot row) = []

abbrev pub packet_words : ℕ → ℕ → Packet → List Numbered
packet_words m j p = if p.to.0 == m then body_words j p.body else []

abbrev pub packet_credits : ℕ → ℕ → Packet → List ℕ
packet_credits m k p = if p.to.0 == m then body_credits k p.body else []

-- the words under way to in-port j of leaf m
abbrev pub words_for : ℕ → ℕ → List Packet → List Numbered
words_for m j [] = []
words_for m j (p ∷ ps) = packet_words m j p ++ words_for m j ps

-- the credits under way to out-port k of leaf m
abbrev pub credits_for : ℕ → ℕ → List Packet → List ℕ
credits_for m k [] = []
credits_for m k (p ∷ ps) = packet_credits m k p ++ credits_for m k ps

-- the sending end of a channel, and the receiving end
pub record OutHalf : Type 0 where
  pub credits : ℕ
  pub out_next : ℕ
  pub box : List Numbered
  pub written : List ℕ

pub record InHalf : Type 0 where
  pub slots : List (Option ℕ)
  pub in_next : ℕ
  pub freed : ℕ
  pub read : List ℕ

-- the ends of channels at a leaf's ports
abbrev pub out_half : Node → ℕ → OutHalf
out_half n k = record { credits = (out_port n.leaf k).credits; out_next = (out_port n.leaf k).next; box = words_of k n.leaf.box; written = n.written k }

abbrev pub in_half : Node → ℕ → InHalf
in_half n j = record { slots = (in_port n.leaf j).slots; in_next = (in_port n.leaf j).next; freed = (in_port n.leaf j).freed; read = n.read j }

-- a channel of two ends, with what is under way between them
abbrev pub joined : OutHalf → InHalf → List Numbered → List ℕ → Channel
joined o i wire returning = record {
  credits = o.credits;
  out_next = o.out_next;
  box = o.box;
  wire = wire;
  returning = returning;
  slots = i.slots;
  in_next = i.in_next;
  freed = i.freed;
  written = o.written;
  read = i.read;
}

-- a channel as it stands in a network
abbrev pub channel : Net → Ends → Channel
channel n e = joined (out_half (n.nodes e.from) e.out) (in_half (n.nodes e.to) e.inn) (words_for e.to e.inn n.under) (credits_for e.from e.out n.under)

-- the row that names this end of a channel
abbrev pub row_to : ℕ → ℕ → Option Row
row_to leaf port = Some (record { leaf = record { 0 = leaf }; port = record { 0 = port } })

-- the tables have this channel, at both of its ends
pub record IsLink (tables : Rows) (e : Ends) : Type 0 where
  pub out : e.out < 8
  pub inn : e.inn < 8
  pub from_row : tables e.from e.out ≡ row_to e.to e.inn
  pub to_row : tables e.to (8 + e.inn) ≡ row_to e.from e.out

-- a channel's two ends have the window, and its account is kept
pub record IsChannel (window : ℕ) (n : Net) (e : Ends) : Type 0 where
  pub from_window : (n.nodes e.from).leaf.window ≡ window
  pub to_window : (n.nodes e.to).leaf.window ≡ window
  pub account : IsAccount window (channel n e)

-- each channel of the tables is so
abbrev pub Accounted : ℕ → Rows → Net → Type 0
Accounted window tables n = (e : Ends) → IsLink tables e → IsChannel window n e

-- one leaf is changed
abbrev pub put : (ℕ → Node) → ℕ → Node → ℕ → Node
put nodes leaf n x = if x == leaf then n else nodes x

-- a write and a read at a leaf
abbrev pub word_added : (ℕ → List ℕ) → ℕ → ℕ → ℕ → List ℕ
word_added words k w i = if i == k then words i ++ w ∷ [] else words i

abbrev pub node_wrote : ℕ → ℕ → Node → Node
node_wrote k w n = record { leaf = wrote n.leaf k w; written = word_added n.written k w; read = n.read }

abbrev pub node_took : ℕ → ℕ → Node → Node
node_took j w n = record { leaf = took n.leaf j; written = n.written; read = word_added n.read j w }

abbrev pub with_leaf : Node → LeafState → Node
with_leaf n s = record n { leaf = s }

-- the same packets, in some order: whatever they weigh, both lists weigh as much
abbrev pub SamePackets : List Packet → List Packet → Type 0
SamePackets ps qs = (f : Packet → ℕ) → sum_by f ps ≡ sum_by f qs

-- a packet for an end of a channel
abbrev pub data_packet : Stamp → ℕ → ℕ → ℕ → ℕ → Packet
data_packet stamp to i number word = record { stamp = stamp; to = record { 0 = to }; body = Data (record { 0 = i }) number word }

abbrev pub credit_packet : Stamp → ℕ → ℕ → ℕ → Packet
credit_packet stamp to i count = record { stamp = stamp; to = record { 0 = to }; body = Credit (record { 0 = i }) count }

-- each word that waits at a leaf, and each in-port with freed room, has a channel of the tables
pub record IsLinked (tables : Rows) (leaf : ℕ) (s : LeafState) : Type 0 where
  pub waiting : (i : ℕ) (w : Waiting) (r : Row) → slice_get s.box i ≡ Some w → row_of s w.port ≡ Some r → IsLink tables (record { from = leaf; out = w.port; to = r.leaf.0; inn = r.port.0 })
  pub owed : (j : ℕ) (r : Row) → j < 8 → 0 < (in_port s j).freed → row_of s (8 + j) ≡ Some r → IsLink tables (record { from = r.leaf.0; out = r.port.0; to = leaf; inn = j })

-- with the packet that is offered, if there is one
abbrev pub joins : Option Packet → List Packet → List Packet
joins None ps = ps
joins (Some p) ps = p ∷ ps

-- what is under way after an offer: a packet that is sent back was under way before, and a new one joins
abbrev pub under_after : Option Packet → Option Packet → List Packet → List Packet
under_after (Some back) offer ps = ps
under_after None offer ps = joins offer ps

-- what is under way after an arrival: a packet that is to be sent back stays under way, and one for the leaf doesn't
abbrev pub under_left : LeafState → Packet → List Packet → List Packet
under_left s p rest = if p.to.0 == s.own then rest else p ∷ rest

-- a leaf as a run begins
pub record IsFresh (window : ℕ) (n : Node) : Type 0 where
  pub width : n.leaf.window ≡ window
  pub outs : n.leaf.outs ≡ replicate 8 (fresh_out window)
  pub ins : n.leaf.ins ≡ replicate 8 (fresh_in window)
  pub box : n.leaf.box ≡ []
  pub written : (k : ℕ) → n.written k ≡ []
  pub read : (j : ℕ) → n.read j ≡ []
