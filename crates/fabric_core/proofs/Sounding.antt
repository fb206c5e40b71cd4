-- What holds of the runs of a sound plan over a tree, and when their next round may be made.
use Rattle.std.proofs.Common.{◌≡◌, ℕ, zero, suc, ◌+◌, ◌*◌, ◌^◌, ◌<◌, ◌≤◌, ◌&&◌, Bool, true, false, List, length, ap, sym, ◌∙◌, refl, arith, Option, Some, subst}
use Rattle.std.specs.Prelude.{nat_lt, IsSome}
use Rattle.std.proofs.lemmas.Bool.Decides.{nat_tests}
use Rattle.net_switch.specs.declared.packet.Packet.{Packet}
use Rattle.net_tree.specs.Links.{Links}
use Rattle.net_tree.specs.Runs as tree
use Rattle.pld_base.specs.declared.event.PortNo.{PortNo}
use Rattle.pld_image.specs.declared.page.TurnEnd.TheVariants.{AtRead, AtWrite}
use Rattle.leaf_port.specs.Leaf.{LeafState, row_of, CanArrive}
use Rattle.fabric_run.specs.declared.entry.Entry.{Entry}
use Rattle.fabric_run.specs.declared.entry.Entry.TheVariants.{Net}
use Rattle.fabric_run.specs.Turns.{turn}
use Rattle.fabric_run.specs.Plan.{PlanValue, IsSound}
use Rattle.fabric_run.specs.World.{Setup, State, PageState, offers_of, ready}
use Rattle.fabric_run.specs.Replay.{may, replay, goes_on, IsLegal}
use Rattle.fabric_keeps.proofs.Steps.{HostKeeps, ready_keeps}
use Rattle.fabric_keeps.proofs.Offering.{what_comes_arrives}
use Rattle.fabric_keeps.proofs.Serving.{read_has_row, write_has_row}
use Rattle.fabric_run.specs.Trees.{tree_setup}
use Rattle.fabric_tree.proofs.Closing.{sound, well, whole}
use Rattle.fabric_tree.proofs.Rounds.{offers_so}
use Rattle.leaf_net.specs.Net as net
use Rattle.leaf_net.specs.Net.{NetState, CanRound, net_size, net_links, leaf_at, came}
use Rattle.leaf_net.specs.Shown.{Shows}
use Rattle.leaf_net.proofs.Showing.{came_same, offers_same}

pow_some : (d : ℕ) → 0 < 2 ^ d
pow_some zero = omega arith
pow_some (suc d) = omega (arith, pow_some d)

pow_same : (a b : ℕ) → 2 ^ a ≡ 2 ^ b → a ≡ b
pow_same zero zero e = refl
pow_same zero (suc b) e = absurd (omega (arith, e, pow_some b))
pow_same (suc a) zero e = absurd (omega (arith, e, pow_some a))
pow_same (suc a) (suc b) e = ap (λ (k : ℕ). suc k) (pow_same a b (omega (arith, e)))

both : (a b : Bool) → (a && b) ≡ true → a ≡ true
both true b e = refl
both false b e = cc

below : (a b : ℕ) → nat_lt a b ≡ true → a < b
below a b e = grind (arith, nat_tests)

few_rounds : (rounds pages : ℕ) → rounds * (8 * pages + 1) ≤ 40000000 → rounds ≤ 40000000
few_rounds rounds pages h = grind (arith, h)

module _ (plan : PlanValue) (sound_plan : IsSound plan) (journal : List Entry) (legal : IsLegal (tree_setup plan) journal) where
  abbrev setup : Setup Links
  setup = tree_setup plan

  abbrev now : State Links
  now = replay (tree_setup plan) journal

  module _ (n : NetState) (seat : ℕ) (m : may (tree_setup plan) (replay (tree_setup plan) journal) (Net seat) ≡ true) (h : Shows (tree_setup plan) (ready (tree_setup plan) (replay (tree_setup plan) journal)) n) where
    host : HostKeeps (tree_setup plan) now (ready (tree_setup plan) now)
    host = ready_keeps (tree_setup plan) now

    rounds_are : n.rounds ≡ now.rounds
    rounds_are = h.rounds ∙ host.rounds

    early : now.rounds < plan.rounds
    early = below now.rounds plan.rounds (both (nat_lt now.rounds plan.rounds) _ (both (goes_on setup now) _ m))

    links_are : net_links n ≡ now.carrier
    links_are = h.links ∙ host.carrier

    deep : plan.depth ≡ n.tree.depth
    deep = pow_same plan.depth n.tree.depth h.size

    offers_are : tree.AreOffers n.tree.depth n.rounds (net_links n) (net.offers_of n)
    offers_are =
        let a : tree.AreOffers plan.depth now.rounds now.carrier (offers_of setup (ready setup now)) = offers_so plan journal seat sound_plan legal m in
        let b : tree.AreOffers n.tree.depth now.rounds now.carrier (offers_of setup (ready setup now)) = subst (λ (d : ℕ). tree.AreOffers d now.rounds now.carrier (offers_of setup (ready setup now))) deep a in
        let c : tree.AreOffers n.tree.depth n.rounds now.carrier (offers_of setup (ready setup now)) = subst (λ (r : ℕ). tree.AreOffers n.tree.depth r now.carrier (offers_of setup (ready setup now))) (sym rounds_are) b in
        let d : tree.AreOffers n.tree.depth n.rounds (net_links n) (offers_of setup (ready setup now)) = subst (λ (k : Links). tree.AreOffers n.tree.depth n.rounds k (offers_of setup (ready setup now))) (sym links_are) c in
        subst (λ (f : ℕ → Option Packet). tree.AreOffers n.tree.depth n.rounds (net_links n) f) (sym (offers_same setup (ready setup now) n h)) d

    pub can : CanRound n
    can = record {
      few = omega (arith, rounds_are, early, few_rounds plan.rounds (length plan.pages) sound_plan.rounds.1);
      arrives = λ i p l e own. (
          let there : setup.net.arrival (ready setup now).carrier i ≡ Some p = sym (came_same setup (ready setup now) n h i) ∙ e in
          let a : CanArrive ((ready setup now).leaves i) p.body = what_comes_arrives setup now i p (sound plan sound_plan) ((well plan sound_plan).carries journal legal) (whole plan sound_plan journal legal) (omega (arith, h.size, l)) there own in
          subst (λ (s : LeafState). CanArrive s p.body) (sym (h.leaves i l)) a);
      offers = offers_are;
    }

  pub reads : (seat i : ℕ) (p : PageState) (k : PortNo) (n : NetState) → Shows setup now n → i < net_size n → now.pages i ≡ Some p → p.holder ≡ Some seat → (turn p.core).end ≡ AtRead k → (k.0 < 8) × IsSome (row_of (leaf_at n i) (8 + k.0))
  reads seat i p k n h l e held end =
      let a : (k.0 < 8) × IsSome (row_of (now.leaves i) (8 + k.0)) = read_has_row setup now i seat p k (sound plan sound_plan) (whole plan sound_plan journal legal) (omega (arith, h.size, l)) e held end in
      (a.0, subst (λ (s : LeafState). IsSome (row_of s (8 + k.0))) (sym (h.leaves i l)) a.1)

  pub writes : (seat i : ℕ) (p : PageState) (k : PortNo) (word : ℕ) (n : NetState) → Shows setup now n → i < net_size n → now.pages i ≡ Some p → p.holder ≡ Some seat → (turn p.core).end ≡ AtWrite k word → (k.0 < 8) × IsSome (row_of (leaf_at n i) k.0)
  writes seat i p k word n h l e held end =
      let a : (k.0 < 8) × IsSome (row_of (now.leaves i) k.0) = write_has_row setup now i seat p k word (sound plan sound_plan) (whole plan sound_plan journal legal) (omega (arith, h.size, l)) e held end in
      (a.0, subst (λ (s : LeafState). IsSome (row_of s k.0)) (sym (h.leaves i l)) a.1)
