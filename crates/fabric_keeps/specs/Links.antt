-- The channels that rows join, and what each round keeps while the new rows stand at all leaves.
use Rattle.std.specs.Prelude.{◌≡◌, ℕ, zero, suc, ◌+◌, ◌<◌, ◌≤◌, Bool, true, false, not, ◌&&◌, if◌then◌else◌, nat_lt, ◌==◌, List, [], length, Option, Some, None, is_some, slice_index_or}
use Rattle.std.specs.List.{count_by}
use Rattle.net_switch.specs.declared.packet.Row.{Row}
use Rattle.net_switch.specs.declared.packet.Packet.{Packet}
use Rattle.net_switch.specs.declared.packet.Body.{Body}
use Rattle.net_switch.specs.declared.packet.Body.TheVariants.{Data, Credit, Config}
use Rattle.leaf_port.specs.declared.ports.Waiting.{Waiting}
use Rattle.leaf_port.specs.Leaf.{LeafState, row_of, in_port}
use Rattle.channel_account.specs.Network.{Node as NetNode, Net, Ends, IsLink, Accounted}
use Rattle.pld_base.specs.Events.{words_read, words_written}
use Rattle.pld_base.specs.Channels.{Node, OperatorNode, InputNode, OutputNode, OutPort, Wiring, family_of, AfterEach, KeepsWindow}
use Rattle.pld_base.specs.declared.event.Event.{Event}
use Rattle.pld_base.specs.Machine.{Reads, Writes}
use Rattle.pld_image.specs.Cores.{Core, next}
use Rattle.fabric_run.specs.World.{Setup, State, Rows, core_at}
use Rattle.hot_swap.specs.Paths.{Leads}

abbrev pub is_row : Option Row → ℕ → ℕ → Bool
is_row None leaf port = false
is_row (Some row) leaf port = (row.leaf.0 == leaf) && (row.port.0 == port)

-- the row names an out-port whose row names in-port j of leaf m
abbrev pub is_from_end : Rows → ℕ → ℕ → Option Row → Bool
is_from_end tables m j None = false
is_from_end tables m j (Some row) = nat_lt row.port.0 8 && is_row (tables row.leaf.0 row.port.0) m j

abbrev pub is_to_end : Rows → ℕ → ℕ → Option Row → Bool
is_to_end tables m k None = false
is_to_end tables m k (Some row) = nat_lt row.port.0 8 && is_row (tables row.leaf.0 (8 + row.port.0)) m k

-- a channel ends at in-port j of leaf m, or begins at out-port k
abbrev pub is_linked_in : Rows → ℕ → ℕ → Bool
is_linked_in tables m j = nat_lt j 8 && is_from_end tables m j (tables m (8 + j))

abbrev pub is_linked_out : Rows → ℕ → ℕ → Bool
is_linked_out tables m k = nat_lt k 8 && is_to_end tables m k (tables m k)

-- a packet is a word for an in-port or a credit for an out-port of a channel
abbrev pub is_body_for : Rows → ℕ → Body → Bool
is_body_for tables m (Data j number word) = is_linked_in tables m j.0
is_body_for tables m (Credit k count) = is_linked_out tables m k.0
is_body_for tables m (Config slot row) = false

abbrev pub is_stray : Rows → Packet → Bool
is_stray tables p = not (is_body_for tables p.to.0 p.body)

-- a leaf: its number, its window, its ports and rows; what waits, stands in a slot or is owed has a channel
pub record IsAt (window : ℕ) (tables : Rows) (i : ℕ) (s : LeafState) : Type 0 where
  pub own : s.own ≡ i
  pub width : s.window ≡ window
  pub outs : length s.outs ≡ 8
  pub ins : length s.ins ≡ 8
  pub rows : (slot : ℕ) → row_of s slot ≡ tables i slot
  pub waiting : count_by (λ (w : Waiting). not (is_linked_out tables i w.port)) s.box ≡ 0
  pub owed : (j : ℕ) → 0 < (in_port s j).freed → is_linked_in tables i j ≡ true
  pub full : (j n w : ℕ) → slice_index_or (in_port s j).slots n None ≡ Some w → is_linked_in tables i j ≡ true

-- whose words stand at a leaf's ports: the host's are those of leaf 0, and a page's go by its number
abbrev pub out_node : (ℕ → ℕ) → ℕ → ℕ → Node
out_node number zero k = InputNode k
out_node number (suc i) k = OperatorNode (number (suc i))

abbrev pub in_node : (ℕ → ℕ) → ℕ → ℕ → Node
in_node number zero j = OutputNode j
in_node number (suc i) j = OperatorNode (number (suc i))

abbrev pub node_port : ℕ → ℕ → ℕ
node_port zero k = 0
node_port (suc i) k = k

-- a state as a network with its account
abbrev pub net_node : {S : Type 0} → Setup S → State S → ℕ → NetNode
net_node setup st i = record {
  leaf = st.leaves i;
  written = λ k. words_written (family_of st.history (out_node setup.number i k)) (node_port i k);
  read = λ j. words_read (family_of st.history (in_node setup.number i j)) (node_port i j);
}

abbrev pub net_of : {S : Type 0} → Setup S → State S → Net
net_of setup st = record { nodes = net_node setup st; under = setup.net.under st.carrier }

-- the channels that the tables join
abbrev pub source : (ℕ → ℕ) → Option Row → Option OutPort
source number None = None
source number (Some row) = Some (record { node = out_node number row.leaf.0 row.port.0; port = node_port row.leaf.0 row.port.0 })

abbrev pub source_at : (ℕ → ℕ) → Rows → ℕ → ℕ → Option OutPort
source_at number tables m j = if is_linked_in tables m j then source number (tables m (8 + j)) else None

abbrev pub wiring_of : {S : Type 0} → Setup S → Wiring
wiring_of setup (OperatorNode k) port = if is_some (setup.image k) then source_at setup.number setup.tables (setup.leaf_of k) port else None
wiring_of setup (InputNode k) port = None
wiring_of setup (OutputNode j) zero = source_at setup.number setup.tables 0 j
wiring_of setup (OutputNode j) (suc port) = None

-- the tables fit the network and the host
pub record IsSound {S : Type 0} (setup : Setup S) : Type 0 where
  pub some : 0 < setup.size
  pub window : 0 < setup.window
  -- each page stands on a leaf of its own, and not on the host's
  pub apart : (i j : ℕ) → setup.number i ≡ setup.number j → i ≡ j
  pub leaf : (i : ℕ) (c : Core) → core_at setup i ≡ Some c → setup.leaf_of (setup.number i) ≡ i
  pub number : (k : ℕ) (c : Core) → setup.image k ≡ Some c → setup.number (setup.leaf_of k) ≡ k
  pub host : core_at setup 0 ≡ None
  pub leaves : (i : ℕ) (c : Core) → core_at setup i ≡ Some c → i < setup.size
  -- channels join ports of pages and of the host
  pub below : (e : Ends) → IsLink setup.tables e → (e.from < setup.size) × (e.to < setup.size)
  pub readers : (i j : ℕ) → is_linked_in setup.tables (suc i) j ≡ true → is_some (core_at setup (suc i)) ≡ true
  pub inputs : (k : ℕ) → k < setup.inputs → is_linked_out setup.tables 0 k ≡ true
  pub feeds : (k : ℕ) → setup.inputs ≤ k → setup.feed k ≡ []
  pub gets : (j : ℕ) → j < setup.outputs → is_linked_in setup.tables 0 j ≡ true
  pub outputs : (j : ℕ) → setup.outputs ≤ j → is_linked_in setup.tables 0 j ≡ false
  -- each port at which a page comes to read or to write has a channel
  pub page_reads : (i : ℕ) (c d : Core) (n : ℕ) (es : List Event) (j : ℕ) (then_ : ℕ → Core) → core_at setup i ≡ Some c → Leads next c n es d → next d ≡ Reads j then_ → is_linked_in setup.tables i j ≡ true
  pub page_writes : (i : ℕ) (c d : Core) (n : ℕ) (es : List Event) (k w : ℕ) (then_ : Core) → core_at setup i ≡ Some c → Leads next c n es d → next d ≡ Writes k w then_ → is_linked_out setup.tables i k ≡ true
  -- a leaf has 16 slots
  pub slots : (i slot : ℕ) → 16 ≤ slot → setup.tables i slot ≡ None

-- what holds between entries, once the new rows stand
pub record IsRunning {S : Type 0} (setup : Setup S) (st : State S) : Type 0 where
  pub accounted : Accounted setup.window setup.tables (net_of setup st)
  pub leaf : (i : ℕ) → i < setup.size → IsAt setup.window setup.tables i (st.leaves i)
  pub for_ends : count_by (is_stray setup.tables) (setup.net.under st.carrier) ≡ 0
  pub no_entries : st.entries ≡ []
  pub window : AfterEach (KeepsWindow setup.window (wiring_of setup)) st.history
