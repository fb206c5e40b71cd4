-- A network beside the run whose half it is.
use Rattle.std.proofs.Common.{◌≡◌, ℕ, zero, suc, ◌+◌, ◌^◌, ◌<◌, Bool, true, false, ◌&&◌, List, length, length-set, refl, ap, sym, ◌∙◌, arith, inl, inr, Option, None, subst}
use Rattle.std.specs.Prelude.{slice_index_or, slice_set, if◌then◌else◌, ◌==◌, nat_lt, min, ◌-◌}
use Rattle.std.specs.List.{count_by}
use Rattle.std.proofs.Math.Path.{fun_ext}
use Rattle.std.proofs.lemmas.Bool.{cases_eq}
use Rattle.std.proofs.lemmas.Bool.Decides.{nat_tests}
use Rattle.std.proofs.lemmas.List.{get_or-set_same, get_or-set_other}
use Rattle.net_switch.specs.declared.packet.Packet.{Packet}
use Rattle.net_tree.specs.Links.{Links, sum_to, taken_off, all_deflections}
use Rattle.net_tree.specs.Runs.{after_round}
use Rattle.net_tree.specs.Ways.{packets_on}
use Rattle.net_tree.proofs.Sums.{sum_same}
use Rattle.net_tree.proofs.Sounds.{none_linked}
use Rattle.leaf_port.specs.declared.tables.ConfigEntry.{ConfigEntry}
use Rattle.leaf_port.specs.Leaf.{LeafState, fresh, wrote, took, offered, is_idle}
use Rattle.pld_base.specs.declared.event.Event.{Event}
use Rattle.pld_base.specs.Channels.{Node}
use Rattle.fabric_run.specs.Plan.{PlanValue}
use Rattle.fabric_run.specs.Trees.{tree_net, tree_setup}
use Rattle.fabric_run.specs.World as run
use Rattle.fabric_run.specs.World.{Carrier, Setup, State, taken_in, entry_for, entries_after, injections, is_config, all_to}
use Rattle.fabric_run.specs.Replay.{is_none_left}
use Rattle.leaf_net.specs.Net.{NetState, IsAfterRound, net_size, net_links, leaf_at, first_leaf, first_net, with_leaf, written, read_at, came, arrived, offer_of, offers_of, is_configured, is_quiet}
use Rattle.leaf_net.specs.Shown.{Shows, is_quiet_in}
use Rattle.leaf_net.proofs.Lists.{length-below, at_below, placed_here, placed_other, all_same}

pow_some : (d : ℕ) → 0 < 2 ^ d
pow_some zero = omega arith
pow_some (suc d) = omega (arith, pow_some d)

first_same : (setup : Setup Links) (i : ℕ) → first_leaf setup.window setup.before setup.tables i ≡ run.first_leaf setup i
first_same setup zero = refl
first_same setup (suc i) = refl

pub begins : (plan : PlanValue) → Shows (tree_setup plan) (run.start (tree_setup plan)) (first_net plan.depth plan.pattern plan.window plan.before plan.tables)
begins plan =
    let setup : Setup Links = tree_setup plan in
    record {
      net = refl;
      size = refl;
      many = length-below (2 ^ plan.depth) (first_leaf setup.window setup.before setup.tables);
      leaves = λ i l. at_below (2 ^ plan.depth) (first_leaf setup.window setup.before setup.tables) i (fresh 0 0) l ∙ first_same setup i;
      links = none_linked plan.depth plan.pattern;
      entries = refl;
      rounds = refl;
      packets = refl;
      deflected = refl;
    }

pub stays : (setup : Setup Links) (st st' : State Links) (n : NetState) → st'.leaves ≡ st.leaves → st'.carrier ≡ st.carrier → st'.entries ≡ st.entries → st'.rounds ≡ st.rounds → st'.packets ≡ st.packets → st'.deflected ≡ st.deflected → Shows setup st n → Shows setup st' n
stays setup st st' n ls c es rs ps ds h = record {
  net = h.net;
  size = h.size;
  many = h.many;
  leaves = λ i l. h.leaves i l ∙ sym (ap (λ (f : ℕ → LeafState). f i) ls);
  links = h.links ∙ sym c;
  entries = h.entries ∙ sym es;
  rounds = h.rounds ∙ sym rs;
  packets = h.packets ∙ sym ps;
  deflected = h.deflected ∙ sym ds;
}

happens : (setup : Setup Links) (st : State Links) (n : NetState) (i : ℕ) (s t : LeafState) (node : Node) (event : Event) → i < net_size n → s ≡ t → Shows setup st n → Shows setup (run.happened st i t node event) (with_leaf n i s)
happens setup st n i s t node event low e h = record {
  net = h.net;
  size = h.size;
  many = length-set n.leaves i s ∙ h.many;
  leaves = λ j l. elim (cases_eq j i) [
    | inl same ↦ (
        let here : slice_index_or (slice_set n.leaves i s) i (fresh 0 0) ≡ s = get_or-set_same n.leaves i s (fresh 0 0) (omega (arith, h.many, low)) in
        let there : slice_index_or (slice_set n.leaves i s) i (fresh 0 0) ≡ run.placed st.leaves i t i = here ∙ (e ∙ sym (placed_here st.leaves i t)) in
        subst (λ (k : ℕ). slice_index_or (slice_set n.leaves i s) k (fresh 0 0) ≡ run.placed st.leaves i t k) (sym same) there)
    | inr other ↦ get_or-set_other n.leaves i j s (fresh 0 0) other ∙ (h.leaves j l ∙ sym (placed_other st.leaves i t j other))
  ];
  links = h.links;
  entries = h.entries;
  rounds = h.rounds;
  packets = h.packets;
  deflected = h.deflected;
}

pub writes : (setup : Setup Links) (st : State Links) (n : NetState) (i port word : ℕ) (node : Node) (event : Event) → i < net_size n → Shows setup st n → Shows setup (run.happened st i (wrote (st.leaves i) port word) node event) (written n i port word)
writes setup st n i port word node event low h = happens setup st n i (wrote (leaf_at n i) port word) (wrote (st.leaves i) port word) node event low (ap (λ (s : LeafState). wrote s port word) (h.leaves i low)) h

pub reads : (setup : Setup Links) (st : State Links) (n : NetState) (i port : ℕ) (node : Node) (event : Event) → i < net_size n → Shows setup st n → Shows setup (run.happened st i (took (st.leaves i) port) node event) (read_at n i port)
reads setup st n i port node event low h = happens setup st n i (took (leaf_at n i) port) (took (st.leaves i) port) node event low (ap (λ (s : LeafState). took s port) (h.leaves i low)) h

module _ (setup : Setup Links) (st : State Links) (n : NetState) (h : Shows setup st n) where
  pub came_same : (i : ℕ) → came n i ≡ setup.net.arrival st.carrier i
  came_same i = ap (λ (k : Links). k.down 0 i 0) h.links ∙ sym (ap (λ (c : Carrier Links). c.arrival st.carrier i) h.net)

  pub arrived_same : (i : ℕ) → i < net_size n → arrived n i ≡ run.arrived setup st i
  arrived_same i l = ap (λ (s : LeafState). taken_in s (came n i)) (h.leaves i l) ∙ ap (taken_in (st.leaves i)) (came_same i)

  pub offer_same : (i : ℕ) → i < net_size n → offer_of n i ≡ run.offer_of setup st i
  offer_same i l =
      ap (λ (s : LeafState). offered s n.rounds (entry_for i n.entries)) (arrived_same i l)
      ∙ (ap (λ (r : ℕ). offered (run.arrived setup st i) r (entry_for i n.entries)) h.rounds ∙ ap (λ (es : List ConfigEntry). offered (run.arrived setup st i) st.rounds (entry_for i es)) h.entries)

  offers_at : (i : ℕ) (b : Bool) → (b ≡ true → i < net_size n) → (if b then (offer_of n i).1 else None) ≡ (if b then (run.offer_of setup st i).1 else None)
  offers_at i true l = ap (λ (o : LeafState × Option Packet). o.1) (offer_same i (l refl))
  offers_at i false l = refl

  below_size : (i : ℕ) → nat_lt i (net_size n) ≡ true → i < net_size n
  below_size i e = grind (arith, nat_tests)

  pub offers_same : offers_of n ≡ run.offers_of setup st
  offers_same = fun_ext (λ i. offers_at i (nat_lt i (net_size n)) (below_size i) ∙ ap (λ (k : ℕ). if nat_lt i k then (run.offer_of setup st i).1 else None) (sym h.size))

  pub under_same : packets_on n.tree.depth n.tree.pattern (net_links n) ≡ setup.net.under st.carrier
  under_same = ap (packets_on n.tree.depth n.tree.pattern) h.links ∙ sym (ap (λ (c : Carrier Links). c.under st.carrier) h.net)

  pub configured : is_configured n ≡ run.is_configured setup st
  configured =
      ap (λ (es : List ConfigEntry). (length es + count_by is_config (packets_on n.tree.depth n.tree.pattern (net_links n))) == 0) h.entries
      ∙ ap (λ (ps : List Packet). (length st.entries + count_by is_config ps) == 0) under_same

  pub quiet : is_quiet n ≡ is_quiet_in setup st
  quiet =
      let idle : all_to (net_size n) (λ i. is_idle (leaf_at n i)) ≡ all_to setup.size (λ i. is_idle (st.leaves i)) =
      all_same (net_size n) (λ i. is_idle (leaf_at n i)) (λ i. is_idle (st.leaves i)) (λ i l. ap is_idle (h.leaves i l)) ∙ ap (λ (k : ℕ). all_to k (λ i. is_idle (st.leaves i))) (sym h.size) in
      ap (λ (es : List ConfigEntry). is_none_left es && (is_none_left (packets_on n.tree.depth n.tree.pattern (net_links n)) && all_to (net_size n) (λ i. is_idle (leaf_at n i)))) h.entries
      ∙ (ap (λ (ps : List Packet). is_none_left st.entries && (is_none_left ps && all_to (net_size n) (λ i. is_idle (leaf_at n i)))) under_same
      ∙ ap (λ (b : Bool). is_none_left st.entries && (is_none_left (setup.net.under st.carrier) && b)) idle)

  pub rounds : (m : NetState) → IsAfterRound n m → Shows setup (run.moved setup st) m
  rounds m a =
      let same : net_size m ≡ net_size n = ap (λ (d : ℕ). 2 ^ d) a.depth in
      let some : 0 < net_size n = pow_some n.tree.depth in
      record {
        net = h.net ∙ (ap (λ (d : ℕ). tree_net d n.tree.pattern) (sym a.depth) ∙ ap (tree_net m.tree.depth) (sym a.pattern));
        size = h.size ∙ sym same;
        many = a.many ∙ (h.many ∙ sym same);
        leaves = λ i l. (let low : i < net_size n = omega (arith, same, l) in a.leaves i low ∙ ap (λ (o : LeafState × Option Packet). o.0) (offer_same i low));
        links = a.links ∙ (ap (λ (os : ℕ → Option Packet). after_round n.tree.depth n.tree.pattern os (net_links n)) offers_same ∙ (ap (after_round n.tree.depth n.tree.pattern (run.offers_of setup st)) h.links ∙ sym (ap (λ (c : Carrier Links). c.carried st.carrier (run.offers_of setup st)) h.net)));
        entries = a.entries ∙ (ap (λ (s : LeafState). entries_after s.back n.entries) (arrived_same 0 some) ∙ ap (entries_after (run.arrived setup st 0).back) h.entries);
        rounds = a.rounds ∙ ap (λ (r : ℕ). r + 1) h.rounds;
        deflected = a.deflected
            ∙ (ap (λ (d : ℕ). min (d + all_deflections n.tree.depth n.tree.pattern (taken_off (net_links n))) (2 ^ 64 - 1)) h.deflected
            ∙ (ap (λ (k : Links). min (st.deflected + all_deflections n.tree.depth n.tree.pattern (taken_off k)) (2 ^ 64 - 1)) h.links
            ∙ sym (ap (λ (c : Carrier Links). min (st.deflected + c.deflects st.carrier) (2 ^ 64 - 1)) h.net)));
        packets = a.packets ∙ omega (
          arith,
          h.packets,
          sum_same (net_size n) (λ i. injections (arrived n i).back (offer_of n i).1) (λ i. injections (run.arrived setup st i).back (run.offer_of setup st i).1)
              (λ i l. ap (λ (s : LeafState). injections s.back (offer_of n i).1) (arrived_same i l) ∙ ap (λ (o : LeafState × Option Packet). injections (run.arrived setup st i).back o.1) (offer_same i l)),
          ap (λ (k : ℕ). sum_to k (λ i. injections (run.arrived setup st i).back (run.offer_of setup st i).1)) h.size,
        );
      }
