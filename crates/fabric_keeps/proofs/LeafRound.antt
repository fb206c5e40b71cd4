-- One leaf in one round: it rests, or it uses something up.
use Rattle.std.proofs.Common.{◌≡◌, ℕ, zero, suc, ◌+◌, ◌<◌, ◌≤◌, ◌⊎◌, Bool, true, false, List, [], ◌∷◌, length, get_or, set, refl, ap, sym, ◌∙◌, arith, length-append, Option, Some, None, subst, inl, inr}
use Rattle.std.specs.Prelude.{if◌then◌else◌, ◌==◌}
use Rattle.std.specs.List.{sum_by}
use Rattle.std.proofs.lemmas.Bool.Decides.{nat_tests}
use Rattle.std.proofs.lemmas.List.Sums.{sum_by-cons, sum_by-set}
use Rattle.pld_base.specs.declared.event.PortNo.{PortNo}
use Rattle.net_switch.specs.declared.packet.Row.{Row}
use Rattle.net_switch.specs.declared.packet.Packet.{Packet}
use Rattle.net_switch.specs.declared.packet.Body.{Body}
use Rattle.net_switch.specs.declared.packet.Body.TheVariants.{Data, Credit, Config}
use Rattle.leaf_port.specs.Ports.{InState, fresh_in}
use Rattle.leaf_port.specs.declared.ports.Waiting.{Waiting}
use Rattle.leaf_port.specs.declared.tables.ConfigEntry.{ConfigEntry}
use Rattle.leaf_port.specs.Leaf.{LeafState, in_port, wrote, took, delivered, is_owed, owed_from, is_idle, to_other_end, offer_word, offer_own, offer_new, offer_first, offered, row_of}
use Rattle.fabric_run.specs.World.{taken_in}
use Rattle.fabric_keeps.specs.Measure.{load, body_load, leaf_load}
use Rattle.net_switch.specs.Switch.{weighs}
use Rattle.fabric_keeps.specs.Facts.{is_light}
use Rattle.fabric_keeps.proofs.Base.{lt_true}

abbrev freed_of : InState → ℕ
freed_of q = q.freed

-- the sum once one item has become larger by at most k
sum_set : (xs : List InState) (i k : ℕ) (y d : InState) → y.freed ≤ (get_or xs i d).freed + k → sum_by freed_of (set xs i y) ≤ sum_by freed_of xs + k
sum_set [] i k y d h = omega arith
sum_set (x ∷ xs) zero k y d h = omega (arith, sum_by-cons freed_of x xs, sum_by-cons freed_of y xs)
sum_set (x ∷ xs) (suc i) k y d h = omega (arith, sum_by-cons freed_of x xs, sum_by-cons freed_of x (set xs i y), sum_set xs i k y d h)

-- the lowest in-port with freed room is there, and has some
pub record IsOwed (n : ℕ) (qs : List InState) (j : ℕ) : Type 0 where
  pub place : ℕ
  pub at : j ≡ n + place
  pub there : place < length qs
  pub some : (d : InState) → 0 < (get_or qs place d).freed

some_same : (a b : ℕ) → Some a ≡ Some b → a ≡ b
some_same a b e = cc

owed_at : (n : ℕ) (q : InState) (qs : List InState) (j : ℕ) (b : Bool) → is_owed q ≡ b → (owed_from (n + 1) qs ≡ Some j → IsOwed (n + 1) qs j) → (if b then Some n else owed_from (n + 1) qs) ≡ Some j → IsOwed n (q ∷ qs) j
owed_at n q qs j true t ih e = record { place = 0; at = (let x : n ≡ j = some_same n j e in omega arith); there = omega arith; some = λ d. lt_true 0 q.freed t }
owed_at n q qs j false t ih e =
    let r : IsOwed (n + 1) qs j = ih e in
    record { place = suc r.place; at = omega (arith, r.at); there = omega (arith, r.there); some = r.some }

pub owed_there : (n : ℕ) (qs : List InState) (j : ℕ) → owed_from n qs ≡ Some j → IsOwed n qs j
owed_there n [] j e = absurd (let x : None ≡ Some j = e in cc)
owed_there n (q ∷ qs) j e = owed_at n q qs j (is_owed q) refl (owed_there (n + 1) qs j) e

-- what an event at a leaf makes it owe
pub wrote_load : (s : LeafState) (k w : ℕ) → leaf_load (wrote s k w) ≡ leaf_load s + 2
wrote_load s k w =
    let e : length (wrote s k w).box ≡ length s.box + 1 = length-append s.box _ in
    omega arith

pub took_load : (s : LeafState) (j : ℕ) → leaf_load (took s j) ≤ leaf_load s + 2
took_load s j =
    let e : sum_by freed_of (took s j).ins ≤ sum_by freed_of s.ins + 1 = sum_set s.ins j 1 _ (fresh_in s.window) (omega arith) in
    omega arith

delivered_load : (s : LeafState) (body : Body) → leaf_load (delivered s body) ≤ leaf_load s
delivered_load s (Data j number word) =
    let e : sum_by freed_of (delivered s (Data j number word)).ins ≤ sum_by freed_of s.ins + 0 = sum_set s.ins j.0 0 _ (fresh_in s.window) (omega arith) in
    omega arith
delivered_load s (Credit k count) = omega arith
delivered_load s (Config slot row) = omega arith

pub delivered_back : (s : LeafState) (body : Body) → (delivered s body).back ≡ s.back
delivered_back s (Data j number word) = refl
delivered_back s (Credit k count) = refl
delivered_back s (Config slot row) = refl

-- what a configuration entry adds, where it is used
abbrev pub entry_cost : Option ConfigEntry → Option Packet → ℕ
entry_cost None back = 0
entry_cost (Some e) None = 2
entry_cost (Some e) (Some p) = 0

-- nothing is offered by this leaf for itself
pub record Offers_none (s : LeafState) (c : Option ConfigEntry) (r : ℕ) : Type 0 where
  pub idle : is_idle s ≡ true
  pub no_entry : c ≡ None
  pub same : offer_new s r c ≡ (s, None)

other_end_load : (s : LeafState) (r k : ℕ) (body : PortNo → Body) (row : Option Row) → ((p : PortNo) → body_load (body p) ≤ k) → weighs load (to_other_end s r body row) ≤ k
other_end_load s r k body None h = omega arith
other_end_load s r k body (Some row) h = h row.port

idle_of : (s : LeafState) → s.back ≡ None → owed_from 0 s.ins ≡ None → s.box ≡ [] → is_idle s ≡ true
idle_of s b o e = rw (b, o, e) refl

word_uses : (s : LeafState) (r : ℕ) (box : List Waiting) → s.back ≡ None → owed_from 0 s.ins ≡ None → s.box ≡ box
    → ((is_idle s ≡ true) × (offer_word s r box ≡ (s, None))) ⊎ (leaf_load (offer_word s r box).0 + weighs load (offer_word s r box).1 + 1 ≤ leaf_load s)
word_uses s r [] b o e = inl (idle_of s b o e, refl)
word_uses s r (w ∷ ws) b o e =
    let l : length s.box ≡ length ws + 1 = ap length e ∙ omega arith in
    let q : weighs load (to_other_end s r (λ j. Data j w.number w.word) (row_of s w.port)) ≤ 1 = other_end_load s r 1 (λ j. Data j w.number w.word) (row_of s w.port) (λ p. omega arith) in
    inr (omega arith)

own_uses : (s : LeafState) (r : ℕ) (o : Option ℕ) → s.back ≡ None → owed_from 0 s.ins ≡ o
    → ((is_idle s ≡ true) × (offer_own s r o ≡ (s, None))) ⊎ (leaf_load (offer_own s r o).0 + weighs load (offer_own s r o).1 + 1 ≤ leaf_load s)
own_uses s r None b o = word_uses s r s.box b o refl
own_uses s r (Some j) b o =
    let w : IsOwed 0 s.ins j = owed_there 0 s.ins j o in
    let place : j ≡ w.place = w.at ∙ omega arith in
    let here : j < length s.ins = omega (arith, w.there) in
    let some : 0 < (in_port s j).freed = subst (λ (x : ℕ). 0 < (get_or s.ins x (fresh_in s.window)).freed) (sym place) (w.some (fresh_in s.window)) in
    let e : sum_by freed_of (set s.ins j (record (in_port s j) { freed = 0 })) + (in_port s j).freed ≡ sum_by freed_of s.ins + 0 = sum_by-set freed_of s.ins j (record (in_port s j) { freed = 0 }) (fresh_in s.window) here in
    let q : weighs load (to_other_end s r (λ k. Credit k (in_port s j).freed) (row_of s (8 + j))) ≤ (in_port s j).freed = other_end_load s r (in_port s j).freed (λ k. Credit k (in_port s j).freed) (row_of s (8 + j)) (λ p. omega arith) in
    inr (omega arith)

new_uses : (s : LeafState) (r : ℕ) (c : Option ConfigEntry) → s.back ≡ None
    → Offers_none s c r ⊎ (leaf_load (offer_new s r c).0 + weighs load (offer_new s r c).1 + 1 ≤ leaf_load s + entry_cost c None)
new_uses s r (Some e) b = inr (omega arith)
new_uses s r None b =
    elim (own_uses s r (owed_from 0 s.ins) b refl) [
      | inl h ↦ inl (record { idle = h.0; no_entry = refl; same = h.1 })
      | inr h ↦ inr (omega arith)
    ]

-- a leaf that gives back what came, and nothing else
pub record LeafRests (s : LeafState) (o : Option Packet) (c : Option ConfigEntry) (r : ℕ) : Type 0 where
  pub same : (offered (taken_in s o) r c).0 ≡ s
  pub gives_back : (offered (taken_in s o) r c).1 ≡ o
  pub idle : o ≡ None → is_idle s ≡ true
  pub no_entry : o ≡ None → c ≡ None
  pub no_cost : entry_cost c (taken_in s o).back ≡ 0

abbrev pub LeafUses : LeafState → Option Packet → Option ConfigEntry → ℕ → Type 0
LeafUses s o c r = leaf_load (offered (taken_in s o) r c).0 + weighs load (offered (taken_in s o) r c).1 + 1 ≤ leaf_load s + weighs load o + entry_cost c (taken_in s o).back

back_given : (s : LeafState) → s.back ≡ None → record s { back = None } ≡ s
back_given s b = ap (λ (x : Option Packet). record s { back = x }) (sym b)

none_some : (p : Packet) → Some p ≡ None → ⊥
none_some p e = cc

packet_uses : (s : LeafState) (p : Packet) (c : Option ConfigEntry) (r : ℕ) (own : Bool) → s.back ≡ None → is_light p ≡ false
    → (let s1 : LeafState = if own then delivered s p.body else record s { back = Some p } in
    ((offered s1 r c ≡ (s, Some p)) × (s1.back ≡ Some p)) ⊎ (leaf_load (offered s1 r c).0 + weighs load (offered s1 r c).1 + 1 ≤ leaf_load s + load p + entry_cost c s1.back))
packet_uses s p c r false b h = inl (ap (λ (x : LeafState). (x, Some p)) (back_given s b), refl)
packet_uses s p c r true b h =
    let some : 0 < load p = grind (arith, nat_tests) in
    let s1 : LeafState = delivered s p.body in
    let back : s1.back ≡ None = delivered_back s p.body ∙ b in
    let less : leaf_load s1 ≤ leaf_load s = delivered_load s p.body in
    let e : offered s1 r c ≡ offer_new s1 r c = ap (offer_first s1 r c) back in
    let cost : entry_cost c s1.back ≡ entry_cost c None = ap (entry_cost c) back in
    let l : leaf_load (offered s1 r c).0 + weighs load (offered s1 r c).1 ≡ leaf_load (offer_new s1 r c).0 + weighs load (offer_new s1 r c).1 = ap (λ (x : LeafState × Option Packet). leaf_load x.0 + weighs load x.1) e in
    elim (new_uses s1 r c back) [
      | inl q ↦ inr (
          let m : leaf_load (offer_new s1 r c).0 + weighs load (offer_new s1 r c).1 ≡ leaf_load s1 + 0 = ap (λ (x : LeafState × Option Packet). leaf_load x.0 + weighs load x.1) q.same in
          let n : entry_cost c None ≡ 0 = ap (λ (x : Option ConfigEntry). entry_cost x None) q.no_entry in
          omega arith)
      | inr q ↦ inr (omega arith)
    ]

pub leaf_round : (s : LeafState) (o : Option Packet) (c : Option ConfigEntry) (r : ℕ) → s.back ≡ None → ((p : Packet) → o ≡ Some p → is_light p ≡ false) → LeafRests s o c r ⊎ LeafUses s o c r
leaf_round s None c r b h =
    let e : offered s r c ≡ offer_new s r c = ap (offer_first s r c) b in
    let cost : entry_cost c s.back ≡ entry_cost c None = ap (entry_cost c) b in
    let l : leaf_load (offered s r c).0 + weighs load (offered s r c).1 ≡ leaf_load (offer_new s r c).0 + weighs load (offer_new s r c).1 = ap (λ (x : LeafState × Option Packet). leaf_load x.0 + weighs load x.1) e in
    elim (new_uses s r c b) [
      | inl q ↦ inl (record {
        same = ap (λ (x : LeafState × Option Packet). x.0) (e ∙ q.same);
        gives_back = ap (λ (x : LeafState × Option Packet). x.1) (e ∙ q.same);
        idle = λ _. q.idle;
        no_entry = λ _. q.no_entry;
        no_cost = cost ∙ ap (λ (x : Option ConfigEntry). entry_cost x None) q.no_entry;
      })
      | inr q ↦ inr (omega arith)
    ]
leaf_round s (Some p) c r b h =
    elim (packet_uses s p c r (p.to.0 == s.own) b (h p refl)) [
      | inl q ↦ inl (record {
        same = ap (λ (x : LeafState × Option Packet). x.0) q.0;
        gives_back = ap (λ (x : LeafState × Option Packet). x.1) q.0;
        idle = λ e. absurd (none_some p e);
        no_entry = λ e. absurd (none_some p e);
        no_cost = ap (entry_cost c) q.1 ∙ foreign_cost c p;
      })
      | inr q ↦ inr q
    ]
  where
    foreign_cost : (c : Option ConfigEntry) (p : Packet) → entry_cost c (Some p) ≡ 0
    foreign_cost None p = refl
    foreign_cost (Some e) p = refl
