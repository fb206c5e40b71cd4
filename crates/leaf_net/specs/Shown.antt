-- The network's half of the state of a run.
use Rattle.std.specs.Prelude.{◌≡◌, ℕ, ◌<◌, Bool, ◌&&◌, length}
use Rattle.net_tree.specs.Links.{Links}
use Rattle.leaf_port.specs.Leaf.{is_idle}
use Rattle.fabric_run.specs.World.{Setup, State, all_to}
use Rattle.fabric_run.specs.Trees.{tree_net}
use Rattle.fabric_run.specs.Replay.{is_none_left}
use Rattle.leaf_net.specs.Net.{NetState, net_size, net_links, leaf_at}

-- the leaves, the packets under way, the entries that are left and the counts are those of this state of a run
pub record Shows (setup : Setup Links) (st : State Links) (n : NetState) : Type 0 where
  pub net : setup.net ≡ tree_net n.tree.depth n.tree.pattern
  pub size : setup.size ≡ net_size n
  pub many : length n.leaves ≡ net_size n
  pub leaves : (i : ℕ) → i < net_size n → leaf_at n i ≡ st.leaves i
  pub links : net_links n ≡ st.carrier
  pub entries : n.entries ≡ st.entries
  pub rounds : n.rounds ≡ st.rounds
  pub packets : n.packets ≡ st.packets
  pub deflected : n.tree.deflected ≡ st.deflected

-- the first three tests of `is_still`
abbrev pub is_quiet_in : Setup Links → State Links → Bool
is_quiet_in setup st =
    is_none_left st.entries && (is_none_left (setup.net.under st.carrier) && all_to setup.size (λ i. is_idle (st.leaves i)))
