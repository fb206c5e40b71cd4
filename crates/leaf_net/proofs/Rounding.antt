-- A round, once each leaf has done its part.
use Rattle.std.proofs.Common.{◌≡◌, ℕ, zero, suc, ◌+◌, ◌-◌, ◌^◌, ◌<◌, ◌≤◌, Bool, true, false, not, List, [], ◌∷◌, refl, ap, sym, ◌∙◌, arith, Option, Some, None, subst, is_some, min}
use Rattle.std.specs.Prelude.{slice_index_or, if◌then◌else◌, ◌==◌, nat_lt}
use Rattle.std.proofs.Math.Path.{fun_ext}
use Rattle.std.proofs.lemmas.Bool.Decides.{nat_tests}
use Rattle.net_switch.specs.declared.packet.Packet.{Packet}
use Rattle.net_switch.specs.declared.packet.Pattern.{Pattern}
use Rattle.net_switch.specs.declared.packet.Body.{Body}
use Rattle.net_switch.specs.declared.packet.Body.TheVariants.{Data, Credit, Config}
use Rattle.net_switch.specs.Switch.{weighs}
use Rattle.net_tree.specs.Links.{Links, taken_off, carried, sum_to, all_deflections}
use Rattle.net_tree.specs.Tree.{TreeState, links_in, offered as offers_weigh}
use Rattle.net_tree.specs.Runs.{AreOffers, HasRun, after_round}
use Rattle.net_tree.proofs.Sums.{sum_same}
use Rattle.net_tree.proofs.Places.{pow_small}
use Rattle.net_tree.proofs.Weighing.{all_taken}
use Rattle.net_tree.proofs.Living.{run_beyond}
use Rattle.net_tree.proofs.Passing.{Ready, run_now}
use Rattle.leaf_port.specs.declared.ports.Waiting.{Waiting}
use Rattle.leaf_port.specs.declared.tables.ConfigEntry.{ConfigEntry}
use Rattle.leaf_port.specs.Leaf.{LeafState, delivered, accepted, offer_first, offer_new, offer_own, offer_word}
use Rattle.fabric_run.specs.World.{taken_in, entry_for, entries_after, but_first}
use Rattle.leaf_net.specs.declared.pass.Tally.{Tally}
use Rattle.leaf_net.specs.Net.{NetState, IsNet, CanRound, IsAfterRound, net_size, net_links, leaf_at, arrived, offer_of, offers_of}
use Rattle.leaf_net.specs.Counts.{one, config_weight}
use Rattle.leaf_net.specs.Passing.{before_round, HavePassed}

-- a leaf's number stays, and no packet is to be sent back after its offer
delivers_own : (s : LeafState) (body : Body) → (delivered s body).own ≡ s.own
delivers_own s (Data j number word) = refl
delivers_own s (Credit k count) = refl
delivers_own s (Config slot row) = refl

accepts_own : (s : LeafState) (p : Packet) (b : Bool) → (p.to.0 == s.own) ≡ b → (accepted s p).own ≡ s.own
accepts_own s p true e = rw e (delivers_own s p.body)
accepts_own s p false e = rw e refl

takes_own : (s : LeafState) (o : Option Packet) → (taken_in s o).own ≡ s.own
takes_own s None = refl
takes_own s (Some p) = accepts_own s p (p.to.0 == s.own) refl

word_own : (s : LeafState) (r : ℕ) (box : List Waiting) → (offer_word s r box).0.own ≡ s.own
word_own s r [] = refl
word_own s r (w ∷ ws) = refl

own_own : (s : LeafState) (r : ℕ) (o : Option ℕ) → (offer_own s r o).0.own ≡ s.own
own_own s r None = word_own s r s.box
own_own s r (Some j) = refl

new_own : (s : LeafState) (r : ℕ) (c : Option ConfigEntry) → (offer_new s r c).0.own ≡ s.own
new_own s r (Some e) = refl
new_own s r None = own_own s r _

first_own : (s : LeafState) (r : ℕ) (c : Option ConfigEntry) (o : Option Packet) → (offer_first s r c o).0.own ≡ s.own
first_own s r c (Some p) = refl
first_own s r c None = new_own s r c

word_back : (s : LeafState) (r : ℕ) (box : List Waiting) → (offer_word s r box).0.back ≡ s.back
word_back s r [] = refl
word_back s r (w ∷ ws) = refl

own_back : (s : LeafState) (r : ℕ) (o : Option ℕ) → (offer_own s r o).0.back ≡ s.back
own_back s r None = word_back s r s.box
own_back s r (Some j) = refl

new_back : (s : LeafState) (r : ℕ) (c : Option ConfigEntry) → (offer_new s r c).0.back ≡ s.back
new_back s r (Some e) = refl
new_back s r None = own_back s r _

first_back : (s : LeafState) (r : ℕ) (c : Option ConfigEntry) (o : Option Packet) → s.back ≡ o → (offer_first s r c o).0.back ≡ None
first_back s r c (Some p) e = refl
first_back s r c None e = new_back s r c ∙ e

entries_are : (back : Option Packet) (es : List ConfigEntry) → entries_after back es ≡ (if not (is_some back) then but_first es else es)
entries_are None es = refl
entries_are (Some p) es = refl

-- whatever the count of packets is
pub passed_now : (n : NetState) (t : TreeState) (ls : List LeafState) (os : List (Option Packet)) (tally : Tally) (k : ℕ) → HavePassed (before_round n.tree n.leaves n.entries n.rounds) t ls os tally k → HavePassed n t ls os tally k
passed_now n t ls os tally k h = record {
  depth = h.depth;
  pattern = h.pattern;
  deflected = h.deflected;
  links = h.links;
  many = h.many;
  done = h.done;
  rest = h.rest;
  long = h.long;
  offer = h.offer;
  none = h.none;
  told = record {
    offered = h.told.offered;
    configs = h.told.configs;
    injected = h.told.injected;
    few = h.told.few;
    sent_back = h.told.sent_back;
  };
}

pow_some : (d : ℕ) → 0 < 2 ^ d
pow_some zero = omega arith
pow_some (suc d) = omega (arith, pow_some d)

module _ (n : NetState) (t : TreeState) (ls : List LeafState) (os : List (Option Packet)) (tally : Tally) (net : IsNet n) (can : CanRound n) (h : HavePassed n t ls os tally (net_size n)) where
  small : net_size n ≤ 64
  small = pow_small n.tree.depth net.most

  offer_at : (i : ℕ) (b : Bool) → nat_lt i (net_size n) ≡ b → slice_index_or os i None ≡ (if b then (offer_of n i).1 else None)
  offer_at i true e = let l : i < net_size n = grind (arith, nat_tests) in h.offer i l
  offer_at i false e = let l : net_size n ≤ i = grind (arith, nat_tests) in h.none i l

  offers_are : (λ i. slice_index_or os i None) ≡ offers_of n
  offers_are = fun_ext (λ i. offer_at i (nat_lt i (net_size n)) refl)

  pub ready : Ready n.tree t n.rounds os
  ready = record {
    depth = h.depth;
    pattern = h.pattern;
    links = h.links ∙ all_taken (net_links n) (net_size n) (λ i j l. run_beyond n.tree.depth n.tree.pattern n.rounds (net_links n) i j net.some net.most net.run l);
    each = subst (λ (f : ℕ → Option Packet). AreOffers n.tree.depth n.rounds (net_links n) f) (sym offers_are) can.offers;
  }

  weigh_same : (f : Packet → ℕ) → sum_to (net_size n) (λ i. weighs f (offer_of n i).1) ≡ offers_weigh t.depth f os
  weigh_same f =
      sum_same (net_size n) (λ i. weighs f (offer_of n i).1) (λ i. weighs f (slice_index_or os i None)) (λ i l. ap (weighs f) (sym (h.offer i l)))
      ∙ ap (λ (d : ℕ). offers_weigh d f os) (sym h.depth)

  pub counts_offered : tally.offered ≡ offers_weigh t.depth one os
  counts_offered = h.told.offered ∙ weigh_same one

  pub counts_configs : tally.configs ≡ offers_weigh t.depth config_weight os
  counts_configs = h.told.configs ∙ weigh_same config_weight

  -- the tree after it has routed, and what is known of it
  module _ (u : TreeState) (depth : u.depth ≡ t.depth) (pattern : u.pattern ≡ t.pattern) (links : links_in u ≡ carried t.depth t.pattern (λ i. slice_index_or os i None) (links_in t)) where
    deep : u.depth ≡ n.tree.depth
    deep = depth ∙ h.depth

    same_size : 2 ^ u.depth ≡ net_size n
    same_size = ap (λ (d : ℕ). 2 ^ d) deep

    pub next_net : (es : List ConfigEntry) → IsNet (record { tree = u; leaves = ls; entries = es; rounds = n.rounds + 1; packets = n.packets + tally.injected })
    next_net es = record {
      some = omega (arith, deep, net.some);
      most = omega (arith, deep, net.most);
      many = h.many ∙ (net.many ∙ sym same_size);
      own = λ i l. (let low : i < net_size n = omega (arith, same_size, l) in
          ap (λ (s : LeafState). s.own) (h.done i low) ∙ (first_own (arrived n i) n.rounds (entry_for i n.entries) (arrived n i).back ∙ (takes_own (leaf_at n i) _ ∙ net.own i low)));
      free = λ i l. (let low : i < net_size n = omega (arith, same_size, l) in
          ap (λ (s : LeafState). s.back) (h.done i low) ∙ first_back (arrived n i) n.rounds (entry_for i n.entries) (arrived n i).back refl);
      packets = omega (arith, net.packets, h.told.few.2, small);
      run = subst (λ (d : ℕ). HasRun d u.pattern (n.rounds + 1) (links_in u)) (sym deep)
          (subst (λ (p : Pattern). HasRun n.tree.depth p (n.rounds + 1) (links_in u)) (sym (pattern ∙ h.pattern)) (run_now n.tree t u n.rounds os net.run ready links));
    }

    links_after : links_in u ≡ after_round n.tree.depth n.tree.pattern (offers_of n) (net_links n)
    links_after =
        links ∙ (ap (λ (d : ℕ). carried d t.pattern (λ i. slice_index_or os i None) (links_in t)) h.depth
        ∙ (ap (λ (p : Pattern). carried n.tree.depth p (λ i. slice_index_or os i None) (links_in t)) h.pattern
        ∙ (ap (λ (k : Links). carried n.tree.depth n.tree.pattern (λ i. slice_index_or os i None) k) ready.links
        ∙ ap (λ (f : ℕ → Option Packet). carried n.tree.depth n.tree.pattern f (taken_off (net_links n))) offers_are)))

    deflected_after : u.deflected ≡ min (t.deflected + all_deflections t.depth t.pattern (links_in t)) (2 ^ 64 - 1) → u.deflected ≡ min (n.tree.deflected + all_deflections n.tree.depth n.tree.pattern (taken_off (net_links n))) (2 ^ 64 - 1)
    deflected_after e =
        e ∙ (ap (λ (k : ℕ). min (k + all_deflections t.depth t.pattern (links_in t)) (2 ^ 64 - 1)) h.deflected
        ∙ (ap (λ (d : ℕ). min (n.tree.deflected + all_deflections d t.pattern (links_in t)) (2 ^ 64 - 1)) h.depth
        ∙ (ap (λ (p : Pattern). min (n.tree.deflected + all_deflections n.tree.depth p (links_in t)) (2 ^ 64 - 1)) h.pattern
        ∙ ap (λ (k : Links). min (n.tree.deflected + all_deflections n.tree.depth n.tree.pattern k) (2 ^ 64 - 1)) ready.links)))

    pub after : (es : List ConfigEntry) → u.deflected ≡ min (t.deflected + all_deflections t.depth t.pattern (links_in t)) (2 ^ 64 - 1) → es ≡ (if not tally.sent_back then but_first n.entries else n.entries)
        → IsAfterRound n (record { tree = u; leaves = ls; entries = es; rounds = n.rounds + 1; packets = n.packets + tally.injected })
    after es d e = record {
      depth = deep;
      pattern = pattern ∙ h.pattern;
      links = links_after;
      deflected = deflected_after d;
      many = h.many;
      leaves = h.done;
      entries = e ∙ (ap (λ (b : Bool). if not b then but_first n.entries else n.entries) (h.told.sent_back (pow_some n.tree.depth)) ∙ sym (entries_are (arrived n 0).back n.entries));
      rounds = refl;
      packets = ap (λ (k : ℕ). n.packets + k) h.told.injected;
    }
