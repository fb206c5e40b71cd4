-- A tree of switches as what carries a run's packets.
use Rattle.std.specs.Prelude.{ℕ, ◌*◌}
use Rattle.net_switch.specs.declared.packet.Pattern.{Pattern}
use Rattle.net_tree.specs.Links.{Links, unlinked, link_count, taken_off, all_deflections}
use Rattle.net_tree.specs.Ways.{packets_on}
use Rattle.net_tree.specs.Runs.{after_round, way_time}
use Rattle.fabric_run.specs.World.{Carrier, Setup}
use Rattle.fabric_run.specs.Plan.{PlanValue, setup_of}

-- the links; the packets on them; what comes down to a leaf; the links after a round; and how often its switches deflect
abbrev pub tree_net : ℕ → Pattern → Carrier Links
tree_net depth pattern = record {
  empty = unlinked;
  under = packets_on depth pattern;
  arrival = λ links i. links.down 0 i 0;
  carried = λ links offers. after_round depth pattern offers links;
  deflects = λ links. all_deflections depth pattern (taken_off links);
}

-- how many rounds a packet is under way at most
abbrev pub longest_way : ℕ → Pattern → ℕ
longest_way depth pattern = link_count depth pattern * way_time depth

-- the tree of a plan, and the plan's run over it
abbrev pub tree_of : PlanValue → Carrier Links
tree_of plan = tree_net plan.depth plan.pattern

abbrev pub tree_setup : PlanValue → Setup Links
tree_setup plan = setup_of (tree_of plan) plan
