-- A round of a run over a tree, in the tree's own words.
use Rattle.std.proofs.Common.{◌≡◌, ℕ, ◌<◌, ◌^◌, Bool, true, false, List, ap, sym, ◌∙◌, arith, Option, Some, None, subst, inl, inr}
use Rattle.std.specs.Prelude.{if◌then◌else◌, nat_lt}
use Rattle.std.proofs.lemmas.Bool.Decides.{nat_tests}
use Rattle.net_switch.specs.declared.packet.Packet.{Packet}
use Rattle.net_tree.specs.Links.{Links}
use Rattle.net_tree.specs.Runs as tree
use Rattle.fabric_run.specs.declared.entry.Entry.{Entry}
use Rattle.fabric_run.specs.declared.entry.Entry.TheVariants.{Net}
use Rattle.fabric_run.specs.Plan.{PlanValue, IsSound}
use Rattle.fabric_run.specs.World.{Setup, State, offer_of, offers_of, ready}
use Rattle.fabric_run.specs.Replay.{after, may, replay, IsLegal}
use Rattle.fabric_keeps.specs.Calls.{OffersSo}
use Rattle.fabric_keeps.proofs.Steps.{HostKeeps, ready_keeps}
use Rattle.fabric_keeps.proofs.Offering.{leaves_offer_so}
use Rattle.fabric_run.specs.Trees.{tree_setup}
use Rattle.fabric_tree.proofs.Closing.{sound, well, whole}

module _ (plan : PlanValue) (st : State Links) where
  abbrev setup : Setup Links
  setup = tree_setup plan

  offered_at : (i : ℕ) → i < 2 ^ plan.depth → offers_of setup st i ≡ (offer_of setup st i).1
  offered_at i l = (let b : nat_lt i (2 ^ plan.depth) ≡ true = grind (arith, nat_tests) in ap (λ (b : Bool). if b then (offer_of setup st i).1 else None) b)

  is_offer : (i : ℕ) → i < 2 ^ plan.depth → OffersSo setup st i → tree.IsOffer plan.depth st.rounds i (st.carrier.down 0 i 0) (offers_of setup st i)
  is_offer i l h = record {
    back = λ p e ne. offered_at i l ∙ h.back p e ne;
    new = λ q e. (
        let f : (offer_of setup st i).1 ≡ Some q = sym (offered_at i l) ∙ e in
        elim (h.new q f) [
          | inl back ↦ inl back
          | inr new ↦ inr (record { in_round = new.0; by_leaf = new.1; for_leaf = h.inside q f })
        ]);
  }

  are_offers : ((i : ℕ) → i < 2 ^ plan.depth → OffersSo setup st i) → tree.AreOffers plan.depth st.rounds st.carrier (offers_of setup st)
  are_offers h = record {
    each = λ i l. is_offer i l (h i l);
    none = λ i l. (let z : nat_lt i (2 ^ plan.depth) ≡ false = grind (arith, nat_tests) in ap (λ (b : Bool). if b then (offer_of setup st i).1 else None) z);
  }

module _ (plan : PlanValue) (journal : List Entry) (seat : ℕ) where
  abbrev now : State Links
  now = replay (tree_setup plan) journal

  abbrev offers : ℕ → Option Packet
  offers = offers_of (tree_setup plan) (ready (tree_setup plan) now)

  host : HostKeeps (tree_setup plan) now (ready (tree_setup plan) now)
  host = ready_keeps (tree_setup plan) now

  -- WHAT LEAVES OFFER is what the tree asks
  pub offers_so : IsSound plan → IsLegal (tree_setup plan) journal → may (tree_setup plan) now (Net seat) ≡ true → tree.AreOffers plan.depth now.rounds now.carrier offers
  offers_so sound_plan legal m =
      let a : tree.AreOffers plan.depth (ready (tree_setup plan) now).rounds (ready (tree_setup plan) now).carrier offers = are_offers plan (ready (tree_setup plan) now) (λ i l.
      leaves_offer_so (tree_setup plan) now seat i (sound plan sound_plan) ((well plan sound_plan).carries journal legal) m (whole plan sound_plan journal legal) l) in
      let b : tree.AreOffers plan.depth now.rounds (ready (tree_setup plan) now).carrier offers = subst (λ (r : ℕ). tree.AreOffers plan.depth r (ready (tree_setup plan) now).carrier offers) host.rounds a in
      subst (λ (k : Links). tree.AreOffers plan.depth now.rounds k offers) host.carrier b

  pub round_is : (after (tree_setup plan) now (Net seat)).carrier ≡ tree.after_round plan.depth plan.pattern offers now.carrier
  round_is = ap (λ (k : Links). tree.after_round plan.depth plan.pattern offers k) host.carrier
