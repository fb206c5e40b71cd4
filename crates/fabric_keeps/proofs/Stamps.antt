-- No two packets under way have one stamp.
use Rattle.std.proofs.Common.{◌≡◌, ℕ, zero, suc, ◌+◌, ◌<◌, ◌≤◌, ◌&&◌, Bool, true, false, cond, List, [], ◌∷◌, refl, ap, sym, ◌∙◌, arith, Option, Some, None, subst, inl, inr}
use Rattle.std.specs.Prelude.{if◌then◌else◌, ◌==◌, nat_lt}
use Rattle.std.specs.List.{sum_by, count_by}
use Rattle.std.proofs.lemmas.Bool.Decides.{nat_tests}
use Rattle.std.proofs.lemmas.List.Sums.{sum_by-cons}
use Rattle.net_switch.specs.declared.packet.Stamp.{Stamp}
use Rattle.net_switch.specs.declared.packet.Packet.{Packet}
use Rattle.net_switch.specs.Switch.{weighs}
use Rattle.net_tree.specs.Links.{sum_to, is_stamped}
use Rattle.leaf_port.specs.declared.tables.ConfigEntry.{ConfigEntry}
use Rattle.leaf_port.specs.Leaf.{LeafState, offered}
use Rattle.fabric_run.specs.World.{Setup, State, ready, taken_in, entry_for, offer_of, moved, start}
use Rattle.fabric_run.specs.Replay.{may, after}
use Rattle.fabric_run.specs.declared.entry.Entry.{Entry}
use Rattle.fabric_run.specs.declared.entry.Entry.TheVariants.{Take, Give, Net}
use Rattle.fabric_keeps.specs.Facts.{Carries, is_new, Begins}
use Rattle.fabric_keeps.specs.Links.{IsSound}
use Rattle.fabric_keeps.specs.Whole.{IsWhole}
use Rattle.fabric_keeps.proofs.Base.{eq_same, same_eq, differ, sum_le, sum_add, one_place, all_zero}
use Rattle.fabric_keeps.proofs.Steps.{HostKeeps, ready_keeps}
use Rattle.fabric_keeps.proofs.Steady.{given_keeps}
use Rattle.fabric_keeps.proofs.Offering.{offer_is_new, own_of, ready_whole}

abbrev pub StampsDiffer : List Packet → Type 0
StampsDiffer ps = (s : Stamp) → sum_by (is_stamped s) ps ≤ 1

none_some : {X : Type 0} (x : X) → None ≡ Some x → ⊥
none_some x e = cc

one_bit : (b : Bool) → (let n : ℕ = cond b 1 0 in n ≤ 1)
one_bit true = omega arith
one_bit false = omega arith

-- a packet with the stamp of this round and of this leaf
made_here : (s : Stamp) (q : Packet) (r i : ℕ) → q.stamp.round.0 ≡ r → q.stamp.source.0 ≡ i → is_stamped s q ≤ (if r == s.round.0 then (if s.source.0 == i then 1 else 0) else 0)
made_here s q r i e f = by (q.stamp.round.0 == s.round.0) (q.stamp.source.0 == s.source.0) refl refl
  where
    by : (a b : Bool) → (q.stamp.round.0 == s.round.0) ≡ a → (q.stamp.source.0 == s.source.0) ≡ b → (let n : ℕ = cond (a && b) 1 0 in n ≤ (if r == s.round.0 then (if s.source.0 == i then 1 else 0) else 0))
    by false b g h = omega arith
    by true false g h = omega arith
    by true true g h =
        let x : (r == s.round.0) ≡ true = same_eq r s.round.0 (sym e ∙ eq_same q.stamp.round.0 s.round.0 g) in
        let y : (s.source.0 == i) ≡ true = same_eq s.source.0 i (sym (eq_same q.stamp.source.0 s.source.0 h) ∙ f) in
        subst (λ (n : ℕ). 1 ≤ n) (sym (ap (λ (t : Bool). let n : ℕ = (if t then (if s.source.0 == i then 1 else 0) else 0) in n) x ∙ ap (λ (t : Bool). let n : ℕ = (if t then 1 else 0) in n) y)) (omega arith)

offer_weighs : (s : Stamp) (leaf : LeafState) (o : Option Packet) (r i : ℕ) (c : Option ConfigEntry) (out : Option Packet) → leaf.back ≡ None → leaf.own ≡ i → (offered (taken_in leaf o) r c).1 ≡ out
    → weighs (is_stamped s) out ≤ weighs (is_stamped s) o + (if r == s.round.0 then (if s.source.0 == i then 1 else 0) else 0)
offer_weighs s leaf o r i c None back own e = omega arith
offer_weighs s leaf o r i c (Some q) back own e =
    elim (offer_is_new leaf o r c q back e) [
      | inl h ↦ omega (arith, ap (weighs (is_stamped s)) h.0)
      | inr h ↦ omega (arith, made_here s q r i h.0 (h.1 ∙ own))
    ]

-- no packet under way has the stamp of a round to come
new_stamp : (s : Stamp) (p : Packet) → (let a : ℕ = cond (is_new s.round.0 p) 1 0 in is_stamped s p ≤ a)
new_stamp s p = by (p.stamp.round.0 == s.round.0) refl
  where
    by : (b : Bool) → (p.stamp.round.0 == s.round.0) ≡ b → (let n : ℕ = cond (b && (p.stamp.source.0 == s.source.0)) 1 0 in let a : ℕ = cond (is_new s.round.0 p) 1 0 in n ≤ a)
    by false e = omega arith
    by true e =
        let h : p.stamp.round.0 ≡ s.round.0 = eq_same p.stamp.round.0 s.round.0 e in
        let z : nat_lt p.stamp.round.0 s.round.0 ≡ false = grind (arith, nat_tests) in
        let y : (let a : ℕ = cond (is_new s.round.0 p) 1 0 in a ≡ 1) = rw z refl in
        omega (arith, one_bit (p.stamp.source.0 == s.source.0))

no_new : (s : Stamp) (ps : List Packet) → count_by (is_new s.round.0) ps ≡ 0 → sum_by (is_stamped s) ps ≡ 0
no_new s [] h = refl
no_new s (p ∷ ps) h =
    let c : count_by (is_new s.round.0) (p ∷ ps) ≡ (let a : ℕ = cond (is_new s.round.0 p) 1 0 in a) + count_by (is_new s.round.0) ps = sum_by-cons (λ (q : Packet). cond (is_new s.round.0 q) 1 0) p ps in
    omega (arith, c, new_stamp s p, no_new s ps (omega (arith, c)), sum_by-cons (is_stamped s) p ps)

bit : (b : Bool) → (if b then 1 else 0) ≤ 1
bit true = omega arith
bit false = omega arith

place_within : (n k : ℕ) → sum_to n (λ i. (if k == i then 1 else 0)) ≤ 1
place_within zero k = omega arith
place_within (suc n) k = by (nat_lt k n) refl (bit (k == n))
  where
    by : (b : Bool) → nat_lt k n ≡ b → (if k == n then 1 else 0) ≤ 1 → sum_to n (λ i. (if k == i then 1 else 0)) + (if k == n then 1 else 0) ≤ 1
    by true e few =
        let l : k < n = grind (arith, nat_tests) in
        let z : (let m : ℕ = (if k == n then 1 else 0) in m ≡ 0) = ap (λ (b : Bool). let m : ℕ = (if b then 1 else 0) in m) (differ k n (λ s. omega arith)) in
        omega (arith, one_place n k 1 l)
    by false e few =
        let l : n ≤ k = grind (arith, nat_tests) in
        let z : sum_to n (λ i. (if k == i then 1 else 0)) ≡ 0 = all_zero n (λ i. (if k == i then 1 else 0)) (λ i m. ap (λ (b : Bool). if b then 1 else 0) (differ k i (λ s. omega arith))) in
        omega arith

moved_stamps : {S : Type 0} (setup : Setup S) (st : State S) → ((i : ℕ) → i < setup.size → (st.leaves i).back ≡ None) → ((i : ℕ) → i < setup.size → (st.leaves i).own ≡ i) → Carries setup st
    → count_by (is_new st.rounds) (setup.net.under st.carrier) ≡ 0 → StampsDiffer (setup.net.under st.carrier) → StampsDiffer (setup.net.under (moved setup st).carrier)
moved_stamps setup st back own c stamped h s =
    let f : Packet → ℕ = is_stamped s in
    let extra : ℕ → ℕ = λ i. (if st.rounds == s.round.0 then (if s.source.0 == i then 1 else 0) else 0) in
    let offers : sum_to setup.size (λ i. weighs f (offer_of setup st i).1) ≤ sum_to setup.size (λ i. weighs f (setup.net.arrival st.carrier i) + extra i) =
    sum_le setup.size (λ i. weighs f (offer_of setup st i).1) (λ i. weighs f (setup.net.arrival st.carrier i) + extra i) (λ i l. offer_weighs s (st.leaves i) (setup.net.arrival st.carrier i) st.rounds i (entry_for i st.entries) (offer_of setup st i).1 (back i l) (own i l) refl) in
    let all : sum_to setup.size (λ i. weighs f (setup.net.arrival st.carrier i) + extra i) ≡ sum_to setup.size (λ i. weighs f (setup.net.arrival st.carrier i)) + sum_to setup.size extra = sum_add setup.size (λ i. weighs f (setup.net.arrival st.carrier i)) extra in
    let came = c.came f in
    let goes = c.goes f in
    by (st.rounds == s.round.0) refl (omega (arith, offers, all, came, goes))
  where
    by : (b : Bool) → (st.rounds == s.round.0) ≡ b
        → sum_by (is_stamped s) (setup.net.under (moved setup st).carrier) ≤ sum_by (is_stamped s) (setup.net.under st.carrier) + sum_to setup.size (λ i. (if st.rounds == s.round.0 then (if s.source.0 == i then 1 else 0) else 0))
        → sum_by (is_stamped s) (setup.net.under (moved setup st).carrier) ≤ 1
    by true e l =
        let r : st.rounds ≡ s.round.0 = eq_same st.rounds s.round.0 e in
        let none : sum_by (is_stamped s) (setup.net.under st.carrier) ≡ 0 = no_new s (setup.net.under st.carrier) (subst (λ (x : ℕ). count_by (is_new x) (setup.net.under st.carrier) ≡ 0) r stamped) in
        let one : sum_to setup.size (λ i. (if st.rounds == s.round.0 then (if s.source.0 == i then 1 else 0) else 0)) ≡ sum_to setup.size (λ i. (if s.source.0 == i then 1 else 0)) = ap (λ (b : Bool). sum_to setup.size (λ i. (if b then (if s.source.0 == i then 1 else 0) else 0))) e in
        omega (arith, place_within setup.size s.source.0)
    by false e l =
        let zero_ : sum_to setup.size (λ i. (if st.rounds == s.round.0 then (if s.source.0 == i then 1 else 0) else 0)) ≡ 0 = ap (λ (b : Bool). sum_to setup.size (λ i. (if b then (if s.source.0 == i then 1 else 0) else 0))) e ∙ all_zero setup.size (λ i. 0) (λ i l. refl) in
        omega (arith, h s)

pub entry_stamps : {S : Type 0} (setup : Setup S) (st : State S) (e : Entry) → IsSound setup → Carries setup (ready setup st) → may setup st e ≡ true → IsWhole setup st → StampsDiffer (setup.net.under st.carrier) → StampsDiffer (setup.net.under (after setup st e).carrier)
entry_stamps setup st (Take seat leaf) sound c m w h = h
entry_stamps {S = S} setup st (Give seat leaf) sound c m w h = subst (λ (x : S). StampsDiffer (setup.net.under x)) (sym (given_keeps setup st leaf (st.pages leaf)).carrier) h
entry_stamps {S = S} setup st (Net seat) sound c m w h =
    let x : State S = ready setup st in
    let k : HostKeeps setup st x = ready_keeps setup st in
    let stamped : count_by (is_new x.rounds) (setup.net.under x.carrier) ≡ 0 = ap (λ (r : ℕ). count_by (is_new r) (setup.net.under x.carrier)) k.rounds ∙ (ap (λ (y : S). count_by (is_new st.rounds) (setup.net.under y)) k.carrier ∙ w.steady.stamped) in
    moved_stamps setup x (λ i l. k.back i ∙ w.steady.back i l) (own_of setup x (ready_whole setup st sound w.world)) c stamped (subst (λ (y : S). StampsDiffer (setup.net.under y)) (sym k.carrier) h)

pub start_stamps : {S : Type 0} (setup : Setup S) → Begins setup → StampsDiffer (setup.net.under (start setup).carrier)
start_stamps setup b s = omega (arith, ap (λ (ps : List Packet). sum_by (is_stamped s) ps) b)
