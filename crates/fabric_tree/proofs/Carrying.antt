-- The tree is as a run asks of what carries its packets.
use Rattle.std.proofs.Common.{◌≡◌, ◌≢◌, ℕ, zero, suc, ◌+◌, ◌-◌, ◌*◌, ◌^◌, ◌<◌, ◌≤◌, ◌⊎◌, Bool, false, cond, List, [], ◌++◌, refl, ap, ◌∙◌, arith, Option, Some, None, subst, inl, inr}
use Rattle.std.specs.List.{count_by}
use Rattle.std.proofs.lemmas.Bool.Decides.{nat_tests}
use Rattle.std.proofs.lemmas.Nat.{pow_pos}
use Rattle.std.proofs.Math.Nat.{mul-le-mul_right}
use Rattle.net_switch.specs.declared.packet.Packet.{Packet}
use Rattle.net_switch.specs.declared.packet.Pattern.{Pattern}
use Rattle.net_switch.specs.Switch.{weighs}
use Rattle.net_tree.specs.Links.{Links, uplinks, unlinked, taken_off, level_weighs, link_count, sum_to}
use Rattle.net_tree.specs.Ways.{Up, Down, lists_to, side_packets, packets_on}
use Rattle.net_tree.specs.Runs as tree
use Rattle.net_tree.proofs.Sums.{sum_none, term_le}
use Rattle.net_tree.proofs.Weighing.{listed}
use Rattle.net_tree.proofs.Living.{run_came, run_goes, run_leaves, young}
use Rattle.fabric_keeps.specs.Facts.{is_old}
use Rattle.fabric_keeps.specs.Carriers.{IsInjected, IsOffer, AreOffers, net_at, HasRun, Keeps, IsCarrier}
use Rattle.fabric_run.specs.Trees.{tree_net, longest_way}

-- nothing stands on links without packets
lists_none : (n : ℕ) (f : ℕ → List Packet) → ((i : ℕ) → f i ≡ []) → lists_to n f ≡ []
lists_none zero f h = refl
lists_none (suc n) f h = ap (λ (xs : List Packet). xs ++ f n) (lists_none n f h) ∙ h n

none_on : (depth : ℕ) (pattern : Pattern) → side_packets depth pattern (λ l i j. None) ≡ []
none_on depth pattern = lists_none depth _ (λ l. lists_none (2 ^ (depth - l)) _ (λ i. lists_none (uplinks pattern l) _ (λ j. refl)))

none_under : (depth : ℕ) (pattern : Pattern) → packets_on depth pattern unlinked ≡ []
none_under depth pattern = ap (λ (xs : List Packet). xs ++ side_packets depth pattern (λ l i j. None)) (none_on depth pattern) ∙ none_on depth pattern

-- both say the same of the leaves' offers
module _ (depth : ℕ) (pattern : Pattern) where
  same_injected : (round leaf : ℕ) (p : Packet) → IsInjected (2 ^ depth) round leaf p → tree.IsInjected depth round leaf p
  same_injected round leaf p h = record { in_round = h.in_round; by_leaf = h.by_leaf; for_leaf = h.for_leaf }

  same_new : (round leaf : ℕ) (came : Option Packet) (p : Packet) → ((came ≡ Some p) × (p.to.0 ≢ leaf)) ⊎ IsInjected (2 ^ depth) round leaf p → ((came ≡ Some p) × (p.to.0 ≢ leaf)) ⊎ tree.IsInjected depth round leaf p
  same_new round leaf came p (inl back) = inl back
  same_new round leaf came p (inr new) = inr (same_injected round leaf p new)

  same_offer : (round leaf : ℕ) (came offer : Option Packet) → IsOffer (2 ^ depth) round leaf came offer → tree.IsOffer depth round leaf came offer
  same_offer round leaf came offer h = record { back = h.back; new = λ p e. same_new round leaf came p (h.new p e) }

  same_offers : (round : ℕ) (links : Links) (offers : ℕ → Option Packet) → AreOffers (tree_net depth pattern) (2 ^ depth) round links offers → tree.AreOffers depth round links offers
  same_offers round links offers h = record { each = λ i l. same_offer round i (links.down 0 i 0) (offers i) (h.each i l); none = h.none }

  same_links : (offers : ℕ → ℕ → Option Packet) (t : ℕ) → net_at (tree_net depth pattern) offers t ≡ tree.links_at depth pattern offers t
  same_links offers zero = refl
  same_links offers (suc t) = ap (λ (links : Links). tree.after_round depth pattern (offers t) links) (same_links offers t)

  -- A RUN of the carrier is one of the tree
  pub same_run : (rounds : ℕ) (links : Links) → HasRun (tree_net depth pattern) (2 ^ depth) rounds links → tree.HasRun depth pattern rounds links
  same_run rounds links h = record {
    offers = h.offers;
    each = λ t l. subst (λ (k : Links). tree.AreOffers depth t k (h.offers t)) (same_links h.offers t) (same_offers t (net_at (tree_net depth pattern) h.offers t) (h.offers t) (h.each t l));
    same = h.same ∙ same_links h.offers rounds;
  }

  not_old : (most rounds : ℕ) (p : Packet) → rounds ≤ p.stamp.round.0 + most → is_old most rounds p ≡ false
  not_old most rounds p l = grind (arith, nat_tests)

  none_old_at : (rounds : ℕ) (o : Option Packet) → ((p : Packet) → o ≡ Some p → rounds ≤ p.stamp.round.0 + longest_way depth pattern) → weighs (λ (p : Packet). cond (is_old (longest_way depth pattern) rounds p) 1 0) o ≡ 0
  none_old_at rounds None h = refl
  none_old_at rounds (Some p) h = ap (λ (b : Bool). cond {A = ℕ} b 1 0) (not_old (longest_way depth pattern) rounds p (h p refl))

  none_old_side : (rounds : ℕ) (side : ℕ → ℕ → ℕ → Option Packet) → ((l i j : ℕ) (p : Packet) → side l i j ≡ Some p → rounds ≤ p.stamp.round.0 + longest_way depth pattern)
      → sum_to depth (level_weighs depth pattern (λ (p : Packet). cond (is_old (longest_way depth pattern) rounds p) 1 0) side) ≡ 0
  none_old_side rounds side h =
      sum_none depth _ (λ l. sum_none (2 ^ (depth - l)) _ (λ i. sum_none (uplinks pattern l) _ (λ j. none_old_at rounds (side l i j) (h l i j))))

  module _ (some : 1 ≤ depth) (six : depth ≤ 6) where
    none_old : (rounds : ℕ) (links : Links) → tree.HasRun depth pattern rounds links → count_by (is_old (longest_way depth pattern) rounds) (packets_on depth pattern links) ≡ 0
    none_old rounds links r =
        let up : sum_to depth (level_weighs depth pattern (λ (p : Packet). cond (is_old (longest_way depth pattern) rounds p) 1 0) links.up) ≡ 0 = none_old_side rounds links.up (λ l i j p e. (young depth pattern rounds links (Up l i j) p some six r e).1) in
        let down : sum_to depth (level_weighs depth pattern (λ (p : Packet). cond (is_old (longest_way depth pattern) rounds p) 1 0) links.down) ≡ 0 = none_old_side rounds links.down (λ l i j p e. (young depth pattern rounds links (Down l i j) p some six r e).1) in
        listed depth pattern links (λ (p : Packet). cond (is_old (longest_way depth pattern) rounds p) 1 0) ∙ omega (arith, up, down)

    keeps : (rounds : ℕ) (links : Links) → tree.HasRun depth pattern rounds links → Keeps (tree_net depth pattern) (2 ^ depth) links
    keeps rounds links r = record {
      kept = packets_on depth pattern (taken_off links);
      came = λ f. run_came depth pattern links f some;
      goes = λ round offers o f. run_goes depth pattern links offers f some six (run_leaves depth pattern rounds links some six r);
    }

    -- THE TREE carries a run's packets
    pub tree_carries : IsCarrier (tree_net depth pattern) (2 ^ depth) (longest_way depth pattern)
    tree_carries = record {
      begins = none_under depth pattern;
      keeps = λ rounds links h. keeps rounds links (same_run rounds links h);
      young = λ rounds links h. none_old rounds links (same_run rounds links h);
    }

times_some : (n u : ℕ) → 1 ≤ n → 1 ≤ u → 1 ≤ n * u
times_some n u h k = omega (arith, mul-le-mul_right u h)

-- there is time
pub some_way : (depth : ℕ) (pattern : Pattern) → 1 ≤ depth → 1 ≤ longest_way depth pattern
some_way depth pattern some =
    let first : 2 ^ (depth - 0) * 1 ≤ sum_to depth (λ l. 2 ^ (depth - l) * uplinks pattern l) = term_le depth 0 (λ l. 2 ^ (depth - l) * uplinks pattern l) (omega arith) in
    let one : 0 < 2 ^ (depth - 0) = pow_pos (depth - 0) in
    times_some (link_count depth pattern) (tree.way_time depth) (omega (arith, first, one)) (omega arith)
