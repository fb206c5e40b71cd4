-- What a run asks of its network.
use Rattle.std.specs.Prelude.{◌≡◌, ◌≢◌, ℕ, zero, suc, ◌<◌, ◌≤◌, ◌+◌, ◌⊎◌, List, [], Option, Some, None}
use Rattle.std.specs.List.{sum_by, count_by}
use Rattle.net_switch.specs.declared.packet.Packet.{Packet}
use Rattle.net_switch.specs.Switch.{weighs}
use Rattle.net_tree.specs.Links.{sum_to}
use Rattle.fabric_run.specs.World.{Carrier}
use Rattle.fabric_keeps.specs.Facts.{is_old}

-- a packet that a leaf injects in a round
pub record IsInjected (size round leaf : ℕ) (p : Packet) : Type 0 where
  pub in_round : p.stamp.round.0 ≡ round
  pub by_leaf : p.stamp.source.0 ≡ leaf
  pub for_leaf : p.to.0 < size

-- what a leaf offers in a round in which this has come to it: a packet for another leaf again, or one that it injects
pub record IsOffer (size round leaf : ℕ) (came offer : Option Packet) : Type 0 where
  pub back : (p : Packet) → came ≡ Some p → p.to.0 ≢ leaf → offer ≡ Some p
  pub new : (p : Packet) → offer ≡ Some p → ((came ≡ Some p) × (p.to.0 ≢ leaf)) ⊎ IsInjected size round leaf p

-- the leaves offer so, and nobody else
pub record AreOffers {S : Type 0} (net : Carrier S) (size round : ℕ) (c : S) (offers : ℕ → Option Packet) : Type 0 where
  pub each : (i : ℕ) → i < size → IsOffer size round i (net.arrival c i) (offers i)
  pub none : (i : ℕ) → size ≤ i → offers i ≡ None

-- the network after so many rounds with these offers
abbrev pub net_at : {S : Type 0} → Carrier S → (ℕ → ℕ → Option Packet) → ℕ → S
net_at net offers zero = net.empty
net_at net offers (suc t) = net.carried (net_at net offers t) (offers t)

-- this is the network after so many rounds, in each of which leaves offered so
pub record HasRun {S : Type 0} (net : Carrier S) (size rounds : ℕ) (c : S) : Type 0 where
  pub offers : ℕ → ℕ → Option Packet
  pub each : (t : ℕ) → t < rounds → AreOffers net size t (net_at net offers t) (offers t)
  pub same : c ≡ net_at net offers rounds

-- what was under way comes to a leaf or is kept
pub record Keeps {S : Type 0} (net : Carrier S) (size : ℕ) (c : S) : Type 0 where
  pub kept : List Packet
  pub came : (f : Packet → ℕ) → sum_by f (net.under c) ≡ sum_by f kept + sum_to size (λ i. weighs f (net.arrival c i))
  -- and then what is offered joins it
  pub goes : (round : ℕ) (offers : ℕ → Option Packet) → AreOffers net size round c offers → (f : Packet → ℕ) → sum_by f (net.under (net.carried c offers)) ≡ sum_by f kept + sum_to size (λ i. weighs f (offers i))

-- A network that begins empty, loses no packet, and has none under way that was first injected more than so many rounds before.
pub record IsCarrier {S : Type 0} (net : Carrier S) (size most : ℕ) : Type 0 where
  pub begins : net.under net.empty ≡ []
  pub keeps : (rounds : ℕ) (c : S) → HasRun net size rounds c → Keeps net size c
  pub young : (rounds : ℕ) (c : S) → HasRun net size rounds c → count_by (is_old most rounds) (net.under c) ≡ 0
