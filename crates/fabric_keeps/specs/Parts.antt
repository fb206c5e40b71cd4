-- The leaves' parts of a round.
use Rattle.std.specs.Prelude.{◌≡◌, ℕ, ◌<◌, true, Option, Some, None}
use Rattle.net_switch.specs.declared.packet.Packet.{Packet}
use Rattle.leaf_port.specs.Leaf.{delivered, offered}
use Rattle.channel_account.specs.Network.{Node, Ends, IsLink, with_leaf}
use Rattle.fabric_run.specs.World.{Rows, taken_in}
use Rattle.fabric_keeps.specs.Links.{is_body_for, IsAt}

-- what is known of each leaf before the round
pub record BeforeRound (window : ℕ) (tables : Rows) (size r : ℕ) (old : ℕ → Node) (arrival : ℕ → Option Packet) : Type 0 where
  pub below : (e : Ends) → IsLink tables e → (e.from < size) × (e.to < size)
  pub at : (i : ℕ) → i < size → IsAt window tables i (old i).leaf
  pub back : (i : ℕ) → i < size → (old i).leaf.back ≡ None
  pub fits : (i : ℕ) → i < size → (p : Packet) → arrival i ≡ Some p → is_body_for tables p.to.0 p.body ≡ true
  pub then_at : (i : ℕ) → i < size → (p : Packet) → arrival i ≡ Some p → p.to.0 ≡ i → IsAt window tables i (delivered (old i).leaf p.body)

abbrev pub next_node : ℕ → (ℕ → Node) → (ℕ → Option Packet) → ℕ → Node
next_node r old arrival i = with_leaf (old i) (offered (taken_in (old i).leaf (arrival i)) r None).0

abbrev pub next_offer : ℕ → (ℕ → Node) → (ℕ → Option Packet) → ℕ → Option Packet
next_offer r old arrival i = (offered (taken_in (old i).leaf (arrival i)) r None).1
