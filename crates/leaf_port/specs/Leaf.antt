-- A leaf of the network, as a value.
use Rattle.std.specs.Prelude.{◌≡◌, ℕ, ◌+◌, ◌-◌, ◌%◌, ◌<◌, ◌≤◌, Bool, true, ◌&&◌, if◌then◌else◌, nat_lt, ◌==◌, List, [], ◌∷◌, ◌++◌, length, replicate, Option, Some, None, is_some, is_none, IsSome, slice_get, slice_set, slice_index_or}
use Rattle.std.specs.List.{count_by}
use Rattle.pld_base.specs.declared.event.PortNo.{PortNo}
use Rattle.net_switch.specs.declared.packet.Row.{Row}
use Rattle.net_switch.specs.declared.packet.Packet.{Packet}
use Rattle.net_switch.specs.declared.packet.Body.{Body}
use Rattle.net_switch.specs.declared.packet.Body.TheVariants.{Data, Credit, Config}
use Rattle.leaf_port.specs.declared.ports.OutPort.{OutPort}
use Rattle.leaf_port.specs.declared.ports.Waiting.{Waiting}
use Rattle.leaf_port.specs.declared.tables.ConfigEntry.{ConfigEntry}
use Rattle.leaf_port.specs.Ports.{InState, fresh_in, next_of, taken, filled_at, credited}

pub record LeafState : Type 0 where
  -- the number of the leaf
  pub own : ℕ
  -- how many words of a channel may be unread
  pub window : ℕ
  -- of each slot, the other end of its channel
  pub rows : List (Option Row)
  pub outs : List OutPort
  pub ins : List InState
  -- the words that wait to be offered, the first one first
  pub box : List Waiting
  -- a packet to be sent back
  pub back : Option Packet

abbrev pub fresh_out : ℕ → OutPort
fresh_out window = record { credits = window; next = 0 }

-- a leaf as a run begins, with no rows
abbrev pub fresh : ℕ → ℕ → LeafState
fresh own window = record {
  own = own;
  window = window;
  rows = replicate 16 None;
  outs = replicate 8 (fresh_out window);
  ins = replicate 8 (fresh_in window);
  box = [];
  back = None;
}

-- the row of a slot: 0 to 7 are those of the out-ports, 8 to 15 those of the in-ports
abbrev pub row_of : LeafState → ℕ → Option Row
row_of s slot = slice_index_or s.rows slot None

abbrev pub with_row : LeafState → ℕ → Option Row → LeafState
with_row s slot row = record s { rows = slice_set s.rows slot row }

abbrev pub out_port : LeafState → ℕ → OutPort
out_port s k = slice_index_or s.outs k (record { credits = 0; next = 0 })

abbrev pub in_port : LeafState → ℕ → InState
in_port s j = slice_index_or s.ins j (fresh_in s.window)

-- a word waits that was written to out-port k
abbrev pub is_from : ℕ → Waiting → Bool
is_from k w = w.port == k

-- how many words of out-port k wait
abbrev pub boxed : ℕ → List Waiting → ℕ
boxed k box = count_by (is_from k) box

-- how many slots hold a word
abbrev pub filled : InState → ℕ
filled q = count_by is_some q.slots

abbrev pub can_write : LeafState → ℕ → Bool
can_write s k = nat_lt 0 (out_port s k).credits

-- the word in the slot of the next number
abbrev pub next_word : LeafState → ℕ → Option ℕ
next_word s j = next_of (in_port s j)

-- a write spends a credit, and puts the word into the outbox with its number
abbrev pub wrote : LeafState → ℕ → ℕ → LeafState
wrote s k w = record s {
  outs = slice_set s.outs k (record { credits = (out_port s k).credits - 1; next = ((out_port s k).next + 1) % s.window });
  box = s.box ++ (record { port = k; number = (out_port s k).next; word = w }) ∷ [];
}

-- a read empties the slot of the next number, and frees its room
abbrev pub took : LeafState → ℕ → LeafState
took s j = record s { ins = slice_set s.ins j (taken s.window (in_port s j)) }

-- what a packet for this leaf changes
abbrev pub delivered : LeafState → Body → LeafState
delivered s (Data j number word) = record s { ins = slice_set s.ins j.0 (filled_at number word (in_port s j.0)) }
delivered s (Credit k count) = record s {
  outs = slice_set s.outs k.0 (record (out_port s k.0) { credits = (out_port s k.0).credits + count });
}
delivered s (Config slot row) = with_row s slot row

-- a packet for another leaf is to be sent back
abbrev pub accepted : LeafState → Packet → LeafState
accepted s p = if p.to.0 == s.own then delivered s p.body else record s { back = Some p }

abbrev pub is_owed : InState → Bool
is_owed q = nat_lt 0 q.freed

-- the lowest in-port with freed room, where they are counted from n
abbrev pub owed_from : ℕ → List InState → Option ℕ
owed_from n [] = None
owed_from n (q ∷ qs) = if is_owed q then Some n else owed_from (n + 1) qs

-- nothing is to be sent back, no room was freed and no word waits
abbrev pub is_idle : LeafState → Bool
is_idle s = is_none s.back && is_none (owed_from 0 s.ins) && (length s.box == 0)

-- a packet that this leaf injects in this round
abbrev pub injected : ℕ → ℕ → ℕ → Body → Packet
injected own round to body = record {
  stamp = record { round = record { 0 = round }; source = record { 0 = own } };
  to = record { 0 = to };
  body = body;
}

-- a packet for the other end of a channel, if there is one
abbrev pub to_other_end : LeafState → ℕ → (PortNo → Body) → Option Row → Option Packet
to_other_end s round body None = None
to_other_end s round body (Some row) = Some (injected s.own round row.leaf.0 (body row.port))

-- the head of the outbox
abbrev pub offer_word : LeafState → ℕ → List Waiting → LeafState × Option Packet
offer_word s round [] = (s, None)
offer_word s round (w ∷ ws) = (record s { box = ws }, to_other_end s round (λ j. Data j w.number w.word) (row_of s w.port))

-- the freed room of an in-port, with the whole count
abbrev pub offer_credit : LeafState → ℕ → ℕ → LeafState × Option Packet
offer_credit s round j = (
  record s { ins = slice_set s.ins j (credited (in_port s j)) },
  to_other_end s round (λ k. Credit k (in_port s j).freed) (row_of s (8 + j)),
)

-- a credit for the lowest in-port with freed room, or else a word
abbrev pub offer_own : LeafState → ℕ → Option ℕ → LeafState × Option Packet
offer_own s round None = offer_word s round s.box
offer_own s round (Some j) = offer_credit s round j

-- the next configuration entry, or else what is the leaf's own
abbrev pub offer_new : LeafState → ℕ → Option ConfigEntry → LeafState × Option Packet
offer_new s round (Some e) = (s, Some (injected s.own round e.leaf.0 (Config e.slot e.row)))
offer_new s round None = offer_own s round (owed_from 0 s.ins)

-- a packet to be sent back, or else a new one
abbrev pub offer_first : LeafState → ℕ → Option ConfigEntry → Option Packet → LeafState × Option Packet
offer_first s round config (Some p) = (record s { back = None }, Some p)
offer_first s round config None = offer_new s round config

-- what a leaf offers in a round, and the leaf after it
abbrev pub offered : LeafState → ℕ → Option ConfigEntry → LeafState × Option Packet
offered s round config = offer_first s round config s.back

-- an out-port: its words that wait and its credits are no more than the window
pub record IsOut (window : ℕ) (box : List Waiting) (k : ℕ) (o : OutPort) : Type 0 where
  pub next : o.next < window
  pub room : o.credits + boxed k box ≤ window

-- an in-port: its words and its freed room are no more than the window
pub record IsIn (window : ℕ) (q : InState) : Type 0 where
  pub slots : length q.slots ≡ window
  pub next : q.next < window
  pub room : filled q + q.freed ≤ window

-- a word that waits has a channel
pub record IsWaiting (window : ℕ) (rows : List (Option Row)) (w : Waiting) : Type 0 where
  pub port : w.port < 8
  pub number : w.number < window
  pub row : IsSome (slice_index_or rows w.port None)

-- what every leaf keeps
pub record IsLeaf (s : LeafState) : Type 0 where
  pub some : 0 < s.window
  pub most : s.window ≤ 64
  pub rows : length s.rows ≡ 16
  pub outs : length s.outs ≡ 8
  pub ins : length s.ins ≡ 8
  pub each_out : (k : ℕ) → k < 8 → IsOut s.window s.box k (out_port s k)
  pub each_in : (j : ℕ) → j < 8 → IsIn s.window (in_port s j)
  pub waiting : (i : ℕ) (w : Waiting) → slice_get s.box i ≡ Some w → IsWaiting s.window s.rows w
  pub owed : (j : ℕ) → j < 8 → 0 < (in_port s j).freed → IsSome (row_of s (8 + j))

-- what may arrive at a leaf that is not to send a packet back
abbrev pub CanArrive : LeafState → Body → Type 0
CanArrive s (Data j number word) =
    (j.0 < 8) × (number < s.window) × (slice_index_or (in_port s j.0).slots number None ≡ None) × (filled (in_port s j.0) + (in_port s j.0).freed < s.window)
CanArrive s (Credit k count) = (k.0 < 8) × (count + (out_port s k.0).credits + boxed k.0 s.box ≤ s.window)
CanArrive s (Config slot row) = (slot < 16) × (is_idle s ≡ true)
