-- The whole state of a run, and its rounds.
use Rattle.std.specs.Prelude.{ℕ, zero, suc, ◌+◌, ◌-◌, ◌^◌, min, Bool, true, false, ◌&&◌, if◌then◌else◌, nat_lt, ◌==◌, List, [], ◌∷◌, ◌++◌, length, Option, Some, None, slice_get}
use Rattle.std.specs.List.{count_by}
use Rattle.net_switch.specs.declared.packet.Row.{Row}
use Rattle.net_switch.specs.declared.packet.Packet.{Packet}
use Rattle.net_switch.specs.declared.packet.Body.{Body}
use Rattle.net_switch.specs.declared.packet.Body.TheVariants.{Data, Credit, Config}
use Rattle.net_tree.specs.Links.{sum_to}
use Rattle.leaf_port.specs.declared.tables.ConfigEntry.{ConfigEntry}
use Rattle.leaf_port.specs.Leaf.{LeafState, fresh, can_write, next_word, wrote, took, accepted, offered}
use Rattle.pld_base.specs.declared.event.Event.{Event}
use Rattle.pld_base.specs.declared.event.Event.TheVariants.{Read, Write}
use Rattle.pld_base.specs.Events.{words_read}
use Rattle.pld_base.specs.Channels.{Node, OperatorNode, InputNode, OutputNode, NodeEvent, family_of}
use Rattle.pld_image.specs.declared.page.TurnEnd.{TurnEnd}
use Rattle.pld_image.specs.declared.page.TurnEnd.TheVariants.{AtRead, AtWrite, Ended, Limit}
use Rattle.pld_image.specs.Cores.{Core, after_read, after_write}
use Rattle.fabric_run.specs.Turns.{Turned, turn}

-- What carries packets: a state with no packet; the packets under way; what comes to a leaf; what stands after a round in which the leaves take
-- what came to them and offer these; and how often packets are deflected in that round.
pub record Carrier (S : Type 0) : Type 0 where
  pub empty : S
  pub under : S → List Packet
  pub arrival : S → ℕ → Option Packet
  pub carried : S → (ℕ → Option Packet) → S
  pub deflects : S → ℕ

-- the rows of leaves, by leaf and slot
abbrev pub Rows : Type 0
Rows = ℕ → ℕ → Option Row

-- What a run is made from: how many leaves there are; the window of the channels; the core of the k-th page as the run begins, and its leaf;
-- the number of the page on a leaf (beyond all pages, where none is there); the rows that stand at the leaves, and those that are to stand;
-- the host's words; the allowed rounds; and what carries packets.
pub record Setup (S : Type 0) : Type 0 where
  pub size : ℕ
  pub window : ℕ
  pub image : ℕ → Option Core
  pub leaf_of : ℕ → ℕ
  pub number : ℕ → ℕ
  pub before : Rows
  pub tables : Rows
  pub inputs : ℕ
  pub feed : ℕ → List ℕ
  pub outputs : ℕ
  pub allowed : ℕ
  pub net : Carrier S

-- the core of the page on a leaf, as the run begins
abbrev pub core_at : {S : Type 0} → Setup S → ℕ → Option Core
core_at setup i = setup.image (setup.number i)

-- The entries that are sent: the slots of leaves 1 and up whose standing row isn't the new one, by leaf and then by slot.

abbrev pub same_row : Option Row → Option Row → Bool
same_row None None = true
same_row None (Some b) = false
same_row (Some a) None = false
same_row (Some a) (Some b) = (a.leaf.0 == b.leaf.0) && (a.port.0 == b.port.0)

abbrev pub entry : ℕ → ℕ → Option Row → ConfigEntry
entry leaf slot row = record { leaf = record { 0 = leaf }; slot = slot; row = row }

abbrev pub change : Rows → Rows → ℕ → ℕ → List ConfigEntry
change before tables leaf slot = if same_row (before leaf slot) (tables leaf slot) then [] else entry leaf slot (tables leaf slot) ∷ []

-- those of a leaf's first slots
abbrev pub changes_in : Rows → Rows → ℕ → ℕ → List ConfigEntry
changes_in before tables leaf zero = []
changes_in before tables leaf (suc n) = changes_in before tables leaf n ++ change before tables leaf n

abbrev pub leaf_changes : Rows → Rows → ℕ → List ConfigEntry
leaf_changes before tables zero = []
leaf_changes before tables (suc leaf) = changes_in before tables (suc leaf) 16

-- those of the first leaves
abbrev pub changes_below : Rows → Rows → ℕ → List ConfigEntry
changes_below before tables zero = []
changes_below before tables (suc n) = changes_below before tables n ++ leaf_changes before tables n

abbrev pub changes : {S : Type 0} → Setup S → List ConfigEntry
changes setup = changes_below setup.before setup.tables setup.size

-- a leaf as the run begins: the host's rows are set, and the others stand as they stood

abbrev pub first_rows : {S : Type 0} → Setup S → Rows
first_rows setup zero slot = setup.tables 0 slot
first_rows setup (suc i) slot = setup.before (suc i) slot

-- what a function gives of each number below n
abbrev pub slots_below : ℕ → (ℕ → Option Row) → List (Option Row)
slots_below zero f = []
slots_below (suc n) f = slots_below n f ++ f n ∷ []

abbrev pub first_leaf : {S : Type 0} → Setup S → ℕ → LeafState
first_leaf setup i = record (fresh i setup.window) { rows = slots_below 16 (first_rows setup i) }

-- A page: its core and the steps made, as its last Give left them; the seat that holds it; its Gives since the last Net; and how its last Give
-- ended where no operation was done.
pub record PageState : Type 0 where
  pub core : Core
  pub steps : ℕ
  pub holder : Option ℕ
  pub gives : ℕ
  pub end : Option TurnEnd

-- Leaves, and the pages on them; what is under way; the entries that are still to be sent; the events, of which the newest stands first; how many
-- rounds were made, how many packets injected, and how often packets were deflected (2^64 - 1 stands for that and more).
pub record State (S : Type 0) : Type 0 where
  pub leaves : ℕ → LeafState
  pub pages : ℕ → Option PageState
  pub carrier : S
  pub entries : List ConfigEntry
  pub history : List NodeEvent
  pub rounds : ℕ
  pub packets : ℕ
  pub deflected : ℕ

abbrev pub start_page : Option Core → Option PageState
start_page None = None
start_page (Some core) = Some (record { core = core; steps = 0; holder = None; gives = 0; end = None })

abbrev pub start : {S : Type 0} → Setup S → State S
start setup = record {
  leaves = first_leaf setup;
  pages = λ i. start_page (core_at setup i);
  carrier = setup.net.empty;
  entries = changes setup;
  history = [];
  rounds = 0;
  packets = 0;
  deflected = 0;
}

-- the same, but for one place
abbrev pub placed : {A : Type 0} → (ℕ → A) → ℕ → A → ℕ → A
placed f i x j = if j == i then x else f j

-- a test of each number below n
abbrev pub all_to : ℕ → (ℕ → Bool) → Bool
all_to zero test = true
all_to (suc n) test = all_to n test && test n

-- something for each number below n, in ascending order
abbrev pub each_to : {A : Type 0} → ℕ → (ℕ → A → A) → A → A
each_to zero go x = x
each_to (suc n) go x = go n (each_to n go x)

-- a leaf after an event of this node
abbrev pub happened : {S : Type 0} → State S → ℕ → LeafState → Node → Event → State S
happened st i leaf node event = record st {
  leaves = placed st.leaves i leaf;
  history = (record { node = node; event = event }) ∷ st.history;
}

-- Part 1 of a round: each input writes a word, and then each output reads one, where they can.

abbrev pub next_feed : {S : Type 0} → Setup S → State S → ℕ → Option ℕ
next_feed setup st k = slice_get (setup.feed k) (length (family_of st.history (InputNode k)))

abbrev pub sent_by : {S : Type 0} → State S → ℕ → Option ℕ → Bool → State S
sent_by st k None may = st
sent_by st k (Some word) false = st
sent_by st k (Some word) true = happened st 0 (wrote (st.leaves 0) k word) (InputNode k) (Write (record { 0 = 0 }) word)

abbrev pub send : {S : Type 0} → Setup S → ℕ → State S → State S
send setup k st = sent_by st k (next_feed setup st k) (can_write (st.leaves 0) k)

abbrev pub received_by : {S : Type 0} → State S → ℕ → Option ℕ → State S
received_by st j None = st
received_by st j (Some word) = happened st 0 (took (st.leaves 0) j) (OutputNode j) (Read (record { 0 = 0 }) word)

abbrev pub receive : {S : Type 0} → ℕ → State S → State S
receive j st = received_by st j (next_word (st.leaves 0) j)

abbrev pub hosted : {S : Type 0} → Setup S → State S → State S
hosted setup st = each_to setup.outputs receive (each_to setup.inputs (send setup) st)

-- Configuration is over once each entry has been accepted: none is to be sent, and none is under way.

abbrev pub is_config_body : Body → Bool
is_config_body (Data j number word) = false
is_config_body (Credit k count) = false
is_config_body (Config slot row) = true

abbrev pub is_config : Packet → Bool
is_config p = is_config_body p.body

-- how many entries aren't accepted yet
abbrev pub unaccepted : {S : Type 0} → Setup S → State S → ℕ
unaccepted setup st = length st.entries + count_by is_config (setup.net.under st.carrier)

abbrev pub is_configured : {S : Type 0} → Setup S → State S → Bool
is_configured setup st = unaccepted setup st == 0

-- Parts 2 to 4: each leaf takes what came to it, each leaf offers at most one packet, and the carrier goes on.

abbrev pub taken_in : LeafState → Option Packet → LeafState
taken_in s None = s
taken_in s (Some p) = accepted s p

abbrev pub first_of_list : {A : Type 0} → List A → Option A
first_of_list [] = None
first_of_list (x ∷ xs) = Some x

abbrev pub but_first : {A : Type 0} → List A → List A
but_first [] = []
but_first (x ∷ xs) = xs

-- leaf 0 is given the next entry
abbrev pub entry_for : ℕ → List ConfigEntry → Option ConfigEntry
entry_for zero entries = first_of_list entries
entry_for (suc i) entries = None

abbrev pub arrived : {S : Type 0} → Setup S → State S → ℕ → LeafState
arrived setup st i = taken_in (st.leaves i) (setup.net.arrival st.carrier i)

abbrev pub offer_of : {S : Type 0} → Setup S → State S → ℕ → LeafState × Option Packet
offer_of setup st i = offered (arrived setup st i) st.rounds (entry_for i st.entries)

-- what the leaves of the network offer, and nobody else
abbrev pub offers_of : {S : Type 0} → Setup S → State S → ℕ → Option Packet
offers_of setup st i = if nat_lt i setup.size then (offer_of setup st i).1 else None

-- the next entry is used exactly where leaf 0 sends nothing back
abbrev pub entries_after : Option Packet → List ConfigEntry → List ConfigEntry
entries_after None entries = but_first entries
entries_after (Some p) entries = entries

-- a packet is injected where one is offered and none was to be sent back
abbrev pub injections : Option Packet → Option Packet → ℕ
injections (Some back) offer = 0
injections None None = 0
injections None (Some p) = 1

abbrev pub after_net : Option PageState → Option PageState
after_net None = None
after_net (Some p) = Some (record p { gives = 0 })

abbrev pub moved : {S : Type 0} → Setup S → State S → State S
moved setup st = record {
  leaves = λ i. (offer_of setup st i).0;
  pages = λ i. after_net (st.pages i);
  carrier = setup.net.carried st.carrier (offers_of setup st);
  entries = entries_after (arrived setup st 0).back st.entries;
  history = st.history;
  rounds = st.rounds + 1;
  packets = st.packets + sum_to setup.size (λ i. injections (arrived setup st i).back (offer_of setup st i).1);
  deflected = min (st.deflected + setup.net.deflects st.carrier) (2 ^ 64 - 1);
}

-- the state once the host has done its part of a round
abbrev pub ready : {S : Type 0} → Setup S → State S → State S
ready setup st = if is_configured setup st then hosted setup st else st

abbrev pub round : {S : Type 0} → Setup S → State S → State S
round setup st = moved setup (ready setup st)

-- A page comes home: the port operation at which its turn ended is done if it can be; else the page stands there.

abbrev pub returned : PageState → Turned → Core → Option TurnEnd → Option PageState
returned p t core end = Some (record { core = core; steps = p.steps + t.steps; holder = None; gives = p.gives + 1; end = end })

abbrev pub read_given : {S : Type 0} → Setup S → State S → ℕ → PageState → Turned → ℕ → Option ℕ → State S
read_given setup st i p t port None = record st { pages = placed st.pages i (returned p t t.core (Some (AtRead (record { 0 = port })))) }
read_given setup st i p t port (Some word) =
    happened (record st { pages = placed st.pages i (returned p t (after_read t.core word) None) }) i (took (st.leaves i) port) (OperatorNode (setup.number i)) (Read (record { 0 = port }) word)

abbrev pub write_given : {S : Type 0} → Setup S → State S → ℕ → PageState → Turned → ℕ → ℕ → Bool → State S
write_given setup st i p t port word false = record st { pages = placed st.pages i (returned p t t.core (Some (AtWrite (record { 0 = port }) word))) }
write_given setup st i p t port word true =
    happened (record st { pages = placed st.pages i (returned p t (after_write t.core) None) }) i (wrote (st.leaves i) port word) (OperatorNode (setup.number i)) (Write (record { 0 = port }) word)

abbrev pub given_at : {S : Type 0} → Setup S → State S → ℕ → PageState → Turned → TurnEnd → State S
given_at setup st i p t (AtRead port) = read_given setup st i p t port.0 (next_word (st.leaves i) port.0)
given_at setup st i p t (AtWrite port word) = write_given setup st i p t port.0 word (can_write (st.leaves i) port.0)
given_at setup st i p t Ended = record st { pages = placed st.pages i (returned p t t.core (Some Ended)) }
given_at setup st i p t Limit = record st { pages = placed st.pages i (returned p t t.core None) }

abbrev pub given : {S : Type 0} → Setup S → State S → ℕ → Option PageState → State S
given setup st i None = st
given setup st i (Some p) = given_at setup st i p (turn p.core) (turn p.core).end

abbrev pub out_to : ℕ → Option PageState → Option PageState
out_to seat None = None
out_to seat (Some p) = Some (record p { holder = Some seat })

-- the words that the k-th output has read
abbrev pub out_at : {S : Type 0} → State S → ℕ → List ℕ
out_at st k = words_read (family_of st.history (OutputNode k)) 0
