-- The leaves' parts of a round, one after another.
use Rattle.std.specs.Prelude.{◌≡◌, ℕ, ◌<◌, ◌≤◌, List, length, Option, Some, None, is_some, slice_index_or}
use Rattle.net_switch.specs.declared.packet.Packet.{Packet}
use Rattle.net_switch.specs.Switch.{weighs}
use Rattle.net_tree.specs.Links.{sum_to}
use Rattle.net_tree.specs.Tree.{TreeState, links_in}
use Rattle.net_tree.specs.Runs.{without_below}
use Rattle.leaf_port.specs.declared.tables.ConfigEntry.{ConfigEntry}
use Rattle.leaf_port.specs.Leaf.{LeafState, CanArrive}
use Rattle.leaf_net.specs.Net.{NetState, net_size, net_links, leaf_in, leaf_at, came, arrived, offer_of, injected_below}
use Rattle.leaf_net.specs.Counts.{one, config_weight}
use Rattle.leaf_net.specs.declared.pass.Tally.{Tally}

-- a network before its round
abbrev pub before_round : TreeState → List LeafState → List ConfigEntry → ℕ → NetState
before_round tree leaves entries rounds = record { tree = tree; leaves = leaves; entries = entries; rounds = rounds; packets = 0 }

-- what the leaves' parts ask
pub record CanPass (n : NetState) : Type 0 where
  pub most : n.tree.depth ≤ 6
  pub many : length n.leaves ≡ net_size n
  pub own : (i : ℕ) → i < net_size n → (leaf_at n i).own ≡ i
  pub free : (i : ℕ) → i < net_size n → (leaf_at n i).back ≡ None
  pub arrives : (i : ℕ) (p : Packet) → i < net_size n → came n i ≡ Some p → p.to.0 ≡ i → CanArrive (leaf_at n i) p.body

-- the offers of the leaves below k, counted
pub record AreTold (n : NetState) (tally : Tally) (k : ℕ) : Type 0 where
  pub offered : tally.offered ≡ sum_to k (λ i. weighs one (offer_of n i).1)
  pub configs : tally.configs ≡ sum_to k (λ i. weighs config_weight (offer_of n i).1)
  pub injected : tally.injected ≡ injected_below n k
  pub few : (tally.offered ≤ k) × (tally.configs ≤ k) × (tally.injected ≤ k)
  pub sent_back : 0 < k → tally.sent_back ≡ is_some (arrived n 0).back

-- the leaves below k have taken what came, and offer this
pub record HavePassed (n : NetState) (tree : TreeState) (leaves : List LeafState) (offers : List (Option Packet)) (tally : Tally) (k : ℕ) : Type 0 where
  pub depth : tree.depth ≡ n.tree.depth
  pub pattern : tree.pattern ≡ n.tree.pattern
  pub deflected : tree.deflected ≡ n.tree.deflected
  pub links : links_in tree ≡ without_below k (net_links n)
  pub many : length leaves ≡ length n.leaves
  pub done : (i : ℕ) → i < k → leaf_in leaves i ≡ (offer_of n i).0
  pub rest : (i : ℕ) → k ≤ i → leaf_in leaves i ≡ leaf_at n i
  pub long : length offers ≡ 64
  pub offer : (i : ℕ) → i < k → slice_index_or offers i None ≡ (offer_of n i).1
  pub none : (i : ℕ) → k ≤ i → slice_index_or offers i None ≡ None
  pub told : AreTold n tally k
