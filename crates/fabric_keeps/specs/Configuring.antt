-- What holds while entries are on their way.
use Rattle.std.specs.Prelude.{◌≡◌, ℕ, ◌+◌, ◌<◌, ◌⊎◌, Bool, false, not, cond, ◌&&◌, nat_lt, ◌==◌, [], length, Option, Some, None}
use Rattle.std.specs.List.{count_by}
use Rattle.net_switch.specs.declared.packet.Row.{Row}
use Rattle.net_switch.specs.declared.packet.Packet.{Packet}
use Rattle.net_switch.specs.declared.packet.Body.{Body}
use Rattle.net_switch.specs.declared.packet.Body.TheVariants.{Data, Credit, Config}
use Rattle.net_tree.specs.Links.{sum_to}
use Rattle.leaf_port.specs.declared.tables.ConfigEntry.{ConfigEntry}
use Rattle.leaf_port.specs.Leaf.{LeafState, fresh, row_of}
use Rattle.fabric_run.specs.World.{Setup, State, PageState, Rows, same_row, is_config}

-- the entry is for this slot
abbrev pub is_for : ℕ → ℕ → ConfigEntry → Bool
is_for leaf slot e = (e.leaf.0 == leaf) && (e.slot == slot)

abbrev pub body_is_for : ℕ → Body → Bool
body_is_for slot (Data j number word) = false
body_is_for slot (Credit k count) = false
body_is_for slot (Config s row) = s == slot

abbrev pub brings : ℕ → ℕ → Packet → Bool
brings leaf slot p = (p.to.0 == leaf) && body_is_for slot p.body

-- it names a slot of the network, and has the new row of that slot
abbrev pub is_right : Rows → ℕ → ℕ → ℕ → Option Row → Bool
is_right tables size leaf slot row = nat_lt leaf size && (nat_lt slot 16 && same_row row (tables leaf slot))

abbrev pub is_wrong_entry : Rows → ℕ → ConfigEntry → Bool
is_wrong_entry tables size e = not (is_right tables size e.leaf.0 e.slot e.row)

abbrev pub body_is_right : Rows → ℕ → ℕ → Body → Bool
body_is_right tables size leaf (Data j number word) = false
body_is_right tables size leaf (Credit k count) = false
body_is_right tables size leaf (Config slot row) = is_right tables size leaf slot row

-- a packet that is no entry, or a wrong one
abbrev pub is_wrong : Rows → ℕ → Packet → Bool
is_wrong tables size p = not (body_is_right tables size p.to.0 p.body)

-- how many entries for a slot aren't accepted yet
abbrev pub pending : {S : Type 0} → Setup S → State S → ℕ → ℕ → ℕ
pending setup st leaf slot = count_by (is_for leaf slot) st.entries + count_by (brings leaf slot) (setup.net.under st.carrier)

-- the entries that leaves accept in a round
abbrev pub takes : LeafState → Option Packet → ℕ
takes s None = 0
takes s (Some p) = cond ((p.to.0 == s.own) && is_config p) 1 0

abbrev pub accepted_in : {S : Type 0} → Setup S → State S → ℕ
accepted_in setup st = sum_to setup.size (λ i. takes (st.leaves i) (setup.net.arrival st.carrier i))

-- no event has happened and no page is out; each leaf is as the run begins, but for its rows; only entries are under way, each with its slot's
-- new row; and each slot's row is the new one, or an entry for it isn't accepted yet
pub record IsConfiguring {S : Type 0} (setup : Setup S) (st : State S) : Type 0 where
  pub history : st.history ≡ []
  pub leaf : (i : ℕ) → i < setup.size → st.leaves i ≡ record (fresh i setup.window) { rows = (st.leaves i).rows }
  pub many : (i : ℕ) → i < setup.size → length (st.leaves i).rows ≡ 16
  pub left : count_by (is_wrong_entry setup.tables setup.size) st.entries ≡ 0
  pub under : count_by (is_wrong setup.tables setup.size) (setup.net.under st.carrier) ≡ 0
  pub home : (i : ℕ) (p : PageState) → st.pages i ≡ Some p → p.holder ≡ None
  pub slots : (i slot : ℕ) → i < setup.size → slot < 16 → (row_of (st.leaves i) slot ≡ setup.tables i slot) ⊎ (0 < pending setup st i slot)
