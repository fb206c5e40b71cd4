-- What leaves offer, and what comes to them, is as the network and the leaves ask.
use Rattle.std.proofs.Common.{◌≡◌, ℕ, zero, suc, ◌+◌, ◌<◌, ◌≤◌, ◌≢◌, ◌⊎◌, not, Bool, true, false, cond, List, [], ◌∷◌, ◌++◌, refl, ap, sym, ◌∙◌, arith, Option, Some, None, subst, inl, inr}
use Rattle.std.specs.Prelude.{if◌then◌else◌, ◌==◌, nat_lt}
use Rattle.std.specs.List.{sum_by, count_by}
use Rattle.std.proofs.lemmas.Bool.Decides.{nat_tests}
use Rattle.std.proofs.lemmas.List.Sums.{sum_by-cons, sum_by-append}
use Rattle.pld_base.specs.declared.event.PortNo.{PortNo}
use Rattle.net_switch.specs.declared.packet.Row.{Row}
use Rattle.net_switch.specs.declared.packet.Packet.{Packet}
use Rattle.net_switch.specs.declared.packet.Body.{Body}
use Rattle.net_switch.specs.declared.packet.Body.TheVariants.{Data, Credit, Config}
use Rattle.net_switch.specs.Switch.{weighs}
use Rattle.net_tree.specs.Links.{sum_to}
use Rattle.leaf_port.specs.declared.ports.Waiting.{Waiting}
use Rattle.leaf_port.specs.declared.tables.ConfigEntry.{ConfigEntry}
use Rattle.leaf_port.specs.Leaf.{LeafState, row_of, in_port, delivered, injected, owed_from, is_idle, to_other_end, offer_word, offer_own, offer_new, offer_first, offered, CanArrive}
use Rattle.channel_account.specs.Network.{SamePackets}
use Rattle.channel_account.proofs.Moves.{may_data, may_credit}
use Rattle.fabric_run.specs.World.{Setup, State, is_configured, hosted, ready, taken_in, entry_for, offer_of, moved}
use Rattle.fabric_run.specs.Replay.{may}
use Rattle.fabric_run.specs.declared.entry.Entry.TheVariants.{Net}
use Rattle.fabric_keeps.specs.Facts.{Carries, is_outside}
use Rattle.fabric_keeps.specs.Links.{is_body_for, is_stray, net_of, IsSound, IsRunning}
use Rattle.fabric_keeps.specs.Configuring.{body_is_right, is_wrong, IsConfiguring}
use Rattle.fabric_keeps.specs.Calls.{OffersSo}
use Rattle.fabric_keeps.specs.Whole.{IsWorld, Configuring, Running, IsWhole}
use Rattle.fabric_keeps.proofs.Base.{both, same_eq, differ, lt_true, sum_zero, last_or}
use Rattle.fabric_keeps.proofs.LeafRound.{delivered_back}
use Rattle.fabric_keeps.proofs.Steps.{ready_keeps}
use Rattle.fabric_keeps.proofs.Accounting.{LinkedIn, LinkedOut, linked_in, linked_out}
use Rattle.fabric_keeps.proofs.WorldKeeps.{hosted_world}
use Rattle.fabric_keeps.proofs.Configures.{begun}
use Rattle.fabric_keeps.proofs.Whole.{whole_keeps}

none_some : {X : Type 0} (x : X) → None ≡ Some x → ⊥
none_some x e = cc

some_same : {X : Type 0} (x y : X) → Some x ≡ Some y → x ≡ y
some_same x y e = cc

lt_of : (a b : ℕ) → a < b → nat_lt a b ≡ true
lt_of a b h = grind (arith, nat_tests)

-- Each packet under way is for a leaf of the network.

zero_of : (b : Bool) → b ≡ true → (let n : ℕ = cond (not b) 1 0 in n ≡ 0)
zero_of true h = refl
zero_of false h = absurd (let x : false ≡ true = h in cc)

le_one : (b : Bool) (n : ℕ) → (b ≡ false → n ≡ 0) → n ≤ 1 → (let m : ℕ = cond b 1 0 in n ≤ m)
le_one true n h l = l
le_one false n h l = omega (arith, h refl)

bit : (b : Bool) → (let n : ℕ = cond (not b) 1 0 in n ≤ 1)
bit true = omega arith
bit false = omega arith

not_false : (b : Bool) → not b ≡ false → b ≡ true
not_false true h = refl
not_false false h = absurd (let x : true ≡ false = h in cc)

module _ {S : Type 0} (setup : Setup S) (sound : IsSound setup) where
  pub for_end : (m : ℕ) (body : Body) → is_body_for setup.tables m body ≡ true → m < setup.size
  for_end m (Data j n w) h = (sound.below _ (linked_in setup.tables m j.0 h).link).1
  for_end m (Credit k n) h = (sound.below _ (linked_out setup.tables m k.0 h).link).0
  for_end m (Config s row) h = absurd (let x : false ≡ true = h in cc)

  end_bit : (p : Packet) → (let a : ℕ = cond (is_outside setup.size p) 1 0 in let b : ℕ = cond (is_stray setup.tables p) 1 0 in a ≤ b)
  end_bit p = le_one (is_stray setup.tables p) _ (λ h. zero_of (nat_lt p.to.0 setup.size) (lt_of p.to.0 setup.size (for_end p.to.0 p.body (not_false (is_body_for setup.tables p.to.0 p.body) h)))) (bit (nat_lt p.to.0 setup.size))

  pub right_end : (m : ℕ) (body : Body) → body_is_right setup.tables setup.size m body ≡ true → nat_lt m setup.size ≡ true
  right_end m (Data j n w) h = absurd (let x : false ≡ true = h in cc)
  right_end m (Credit k n) h = absurd (let x : false ≡ true = h in cc)
  right_end m (Config s row) h = (both (nat_lt m setup.size) _ h).0

  entry_bit : (p : Packet) → (let a : ℕ = cond (is_outside setup.size p) 1 0 in let b : ℕ = cond (is_wrong setup.tables setup.size p) 1 0 in a ≤ b)
  entry_bit p = le_one (is_wrong setup.tables setup.size p) _ (λ h. zero_of (nat_lt p.to.0 setup.size) (right_end p.to.0 p.body (not_false (body_is_right setup.tables setup.size p.to.0 p.body) h))) (bit (nat_lt p.to.0 setup.size))

  few : (t : Packet → Bool) (ps : List Packet) → ((p : Packet) → (let a : ℕ = cond (is_outside setup.size p) 1 0 in let b : ℕ = cond (t p) 1 0 in a ≤ b)) → count_by (is_outside setup.size) ps ≤ count_by t ps
  few t [] h = omega arith
  few t (p ∷ ps) h = omega (arith, h p, few t ps h, sum_by-cons (λ (q : Packet). cond (is_outside setup.size q) 1 0) p ps, sum_by-cons (λ (q : Packet). cond (t q) 1 0) p ps)

  pub under_inside : (st : State S) → IsWorld setup st → count_by (is_outside setup.size) (setup.net.under st.carrier) ≡ 0
  under_inside st (Configuring busy h) = omega (arith, few (is_wrong setup.tables setup.size) (setup.net.under st.carrier) entry_bit, h.under)
  under_inside st (Running h) = omega (arith, few (is_stray setup.tables) (setup.net.under st.carrier) end_bit, h.for_ends)

-- What is offered.

pub offer_back : (s : LeafState) (p : Packet) (r : ℕ) (c : Option ConfigEntry) → p.to.0 ≢ s.own → (offered (taken_in s (Some p)) r c).1 ≡ Some p
offer_back s p r c h = ap (λ (b : Bool). (offered (if b then delivered s p.body else record s { back = Some p }) r c).1) (differ p.to.0 s.own h)

abbrev IsNew : ℕ → ℕ → Packet → Type 0
IsNew own r q = (q.stamp.round.0 ≡ r) × (q.stamp.source.0 ≡ own)

end_new : (s : LeafState) (r : ℕ) (body : PortNo → Body) (row : Option Row) (q : Packet) → to_other_end s r body row ≡ Some q → IsNew s.own r q
end_new s r body None q e = absurd (none_some q e)
end_new s r body (Some row) q e =
    let x : injected s.own r row.leaf.0 (body row.port) ≡ q = some_same _ q e in
    (ap (λ (y : Packet). y.stamp.round.0) (sym x), ap (λ (y : Packet). y.stamp.source.0) (sym x))

word_new : (s : LeafState) (r : ℕ) (box : List Waiting) (q : Packet) → (offer_word s r box).1 ≡ Some q → IsNew s.own r q
word_new s r [] q e = absurd (none_some q e)
word_new s r (w ∷ ws) q e = end_new s r (λ j. Data j w.number w.word) (row_of s w.port) q e

own_new : (s : LeafState) (r : ℕ) (o : Option ℕ) (q : Packet) → (offer_own s r o).1 ≡ Some q → IsNew s.own r q
own_new s r None q e = word_new s r s.box q e
own_new s r (Some j) q e = end_new s r (λ k. Credit k (in_port s j).freed) (row_of s (8 + j)) q e

new_new : (s : LeafState) (r : ℕ) (c : Option ConfigEntry) (q : Packet) → (offer_new s r c).1 ≡ Some q → IsNew s.own r q
new_new s r (Some e) q h =
    let x : injected s.own r e.leaf.0 (Config e.slot e.row) ≡ q = some_same _ q h in
    (ap (λ (y : Packet). y.stamp.round.0) (sym x), ap (λ (y : Packet). y.stamp.source.0) (sym x))
new_new s r None q h = own_new s r (owed_from 0 s.ins) q h

delivered_own : (s : LeafState) (body : Body) → (delivered s body).own ≡ s.own
delivered_own s (Data j n w) = refl
delivered_own s (Credit k n) = refl
delivered_own s (Config slot row) = refl

taken_new : (s : LeafState) (p : Packet) (r : ℕ) (c : Option ConfigEntry) (q : Packet) (b : Bool) → s.back ≡ None → (p.to.0 == s.own) ≡ b → (offered (if b then delivered s p.body else record s { back = Some p }) r c).1 ≡ Some q
    → ((p ≡ q) × (p.to.0 ≢ s.own)) ⊎ IsNew s.own r q
taken_new s p r c q true back t e =
    let s1 : LeafState = delivered s p.body in
    let h : (offer_new s1 r c).1 ≡ Some q = sym (ap (λ (x : Option Packet). (offer_first s1 r c x).1) (delivered_back s p.body ∙ back)) ∙ e in
    let n : IsNew s1.own r q = new_new s1 r c q h in
    inr (n.0, n.1 ∙ delivered_own s p.body)
taken_new s p r c q false back t e =
    inl (some_same p q e, λ (x : p.to.0 ≡ s.own). (let y : (p.to.0 == s.own) ≡ true = same_eq p.to.0 s.own x in let z : false ≡ true = sym t ∙ y in cc))

pub offer_is_new : (s : LeafState) (o : Option Packet) (r : ℕ) (c : Option ConfigEntry) (q : Packet) → s.back ≡ None → (offered (taken_in s o) r c).1 ≡ Some q → ((o ≡ Some q) × (q.to.0 ≢ s.own)) ⊎ IsNew s.own r q
offer_is_new s None r c q back e = inr (new_new s r c q (sym (ap (λ (x : Option Packet). (offer_first s r c x).1) back) ∙ e))
offer_is_new s (Some p) r c q back e =
    elim (taken_new s p r c q (p.to.0 == s.own) back refl e) [
      | inl h ↦ inl (ap (λ (x : Packet). Some x) h.0, λ (x : q.to.0 ≡ s.own). h.1 (ap (λ (y : Packet). y.to.0) h.0 ∙ x))
      | inr h ↦ inr h
    ]

-- a leaf's own number
pub own_of : {S : Type 0} (setup : Setup S) (st : State S) → IsWorld setup st → (i : ℕ) → i < setup.size → (st.leaves i).own ≡ i
own_of setup st (Configuring busy h) i l = ap (λ (s : LeafState). s.own) (h.leaf i l)
own_of setup st (Running h) i l = (h.leaf i l).own

-- the world once the host has done its part
pub ready_whole : {S : Type 0} (setup : Setup S) (st : State S) → IsSound setup → IsWorld setup st → IsWorld setup (ready setup st)
ready_whole setup st sound (Configuring busy h) =
    subst (IsWorld setup) (sym (ap (λ (b : Bool). if b then hosted setup st else st) busy)) (Configuring busy h)
ready_whole {S = S} setup st sound (Running h) = by (is_configured setup st)
  where
    by : (b : Bool) → IsWorld setup (if b then hosted setup st else st)
    by true = Running (hosted_world setup st sound h)
    by false = Running h

offers_in : {S : Type 0} (setup : Setup S) (st : State S) → IsSound setup → Carries setup st → IsWorld setup (moved setup st) → (i : ℕ) (q : Packet) → i < setup.size → (offer_of setup st i).1 ≡ Some q → q.to.0 < setup.size
offers_in setup st sound c next i q l e =
    let f : Packet → ℕ = λ (p : Packet). cond (is_outside setup.size p) 1 0 in
    let z : sum_to setup.size (λ j. weighs f (offer_of setup st j).1) ≡ 0 = omega (arith, c.goes f, under_inside setup sound (moved setup st) next) in
    let y : f q ≡ 0 = sym (ap (weighs f) e) ∙ sum_zero setup.size (λ j. weighs f (offer_of setup st j).1) z i l in
    lt_true q.to.0 setup.size (passed (nat_lt q.to.0 setup.size) y)
  where
    passed : (b : Bool) → (let n : ℕ = cond (not b) 1 0 in n ≡ 0) → b ≡ true
    passed true h = refl
    passed false h = absurd (omega arith)

pub leaves_offer_so : {S : Type 0} (setup : Setup S) (st : State S) (seat i : ℕ) → IsSound setup → Carries setup (ready setup st) → may setup st (Net seat) ≡ true → IsWhole setup st → i < setup.size → OffersSo setup (ready setup st) i
leaves_offer_so {S = S} setup st seat i sound c m w l =
    let x : State S = ready setup st in
    let next : IsWorld setup (moved setup x) = (whole_keeps setup st (Net seat) sound c m w).world in
    let own : (x.leaves i).own ≡ i = own_of setup x (ready_whole setup st sound w.world) i l in
    let back : (x.leaves i).back ≡ None = (ready_keeps setup st).back i ∙ w.steady.back i l in
    let o : Option Packet = setup.net.arrival x.carrier i in
    record {
      back = λ p e h.
          ap (λ (y : Option Packet). (offered (taken_in (x.leaves i) y) x.rounds (entry_for i x.entries)).1) e
          ∙ offer_back (x.leaves i) p x.rounds (entry_for i x.entries) (λ (t : p.to.0 ≡ (x.leaves i).own). h (t ∙ own));
      new = λ q e. elim (offer_is_new (x.leaves i) o x.rounds (entry_for i x.entries) q back e) [
        | inl h ↦ inl (h.0, λ (t : q.to.0 ≡ i). h.1 (t ∙ sym own))
        | inr h ↦ inr (h.0, h.1 ∙ own)
      ];
      inside = λ q e. offers_in setup x sound c next i q l e;
    }

-- What comes to its own leaf may arrive there.

abbrev some_of : Option Packet → List Packet
some_of None = []
some_of (Some p) = p ∷ []

some_weigh : (f : Packet → ℕ) (o : Option Packet) → sum_by f (some_of o) ≡ weighs f o
some_weigh f None = refl
some_weigh f (Some p) = sum_by-cons f p [] ∙ omega arith

-- the packets that come to the other leaves
others : (ℕ → Option Packet) → ℕ → ℕ → List Packet
others f i zero = []
others f i (suc n) = (if n == i then [] else some_of (f n)) ++ others f i n

others_weigh : (g : Packet → ℕ) (f : ℕ → Option Packet) (i n : ℕ) → n ≤ i → sum_to n (λ j. weighs g (f j)) ≡ sum_by g (others f i n)
unfolding others
others_weigh g f i zero l = refl
others_weigh g f i (suc n) l =
    let e : sum_by g (if n == i then [] else some_of (f n)) ≡ weighs g (f n) = ap (λ (b : Bool). sum_by g (if b then [] else some_of (f n))) (differ n i (λ s. omega arith)) ∙ some_weigh g (f n) in
    omega (arith, others_weigh g f i n (omega arith), sum_by-append g (if n == i then [] else some_of (f n)) (others f i n))

all_weigh : (g : Packet → ℕ) (f : ℕ → Option Packet) (i n : ℕ) → i < n → sum_to n (λ j. weighs g (f j)) ≡ weighs g (f i) + sum_by g (others f i n)
unfolding others
all_weigh g f i zero l = absurd (omega arith)
all_weigh g f i (suc n) l =
    elim (last_or n i l) [
      | inl s ↦ (
          let e : sum_by g (if n == i then [] else some_of (f n)) ≡ 0 = ap (λ (b : Bool). sum_by g (if b then [] else some_of (f n))) (same_eq n i (sym s)) in
          let h : weighs g (f i) ≡ weighs g (f n) = ap (λ (x : ℕ). weighs g (f x)) s in
          omega (arith, others_weigh g f i n (omega arith), sum_by-append g (if n == i then [] else some_of (f n)) (others f i n)))
      | inr m ↦ (
          let e : sum_by g (if n == i then [] else some_of (f n)) ≡ weighs g (f n) = ap (λ (b : Bool). sum_by g (if b then [] else some_of (f n))) (differ n i (λ s. omega arith)) ∙ some_weigh g (f n) in
          omega (arith, all_weigh g f i n m, sum_by-append g (if n == i then [] else some_of (f n)) (others f i n)))
    ]

module _ {S : Type 0} (setup : Setup S) (st : State S) (sound : IsSound setup) (c : Carries setup st) (i : ℕ) (l : i < setup.size) (p : Packet) (here : setup.net.arrival st.carrier i ≡ Some p) (own : p.to.0 ≡ i) where
  abbrev rest : List Packet
  rest = c.kept ++ others (λ j. setup.net.arrival st.carrier j) i setup.size

  split : SamePackets (setup.net.under st.carrier) (p ∷ rest)
  split = λ f.
      omega (
        arith,
        c.came f,
        all_weigh f (λ j. setup.net.arrival st.carrier j) i setup.size l,
        ap (weighs f) here,
        sum_by-cons f p rest,
        sum_by-append f c.kept (others (λ j. setup.net.arrival st.carrier j) i setup.size),
      )

  packet_is : (body : Body) → p.body ≡ body → p ≡ record { stamp = p.stamp; to = record { 0 = i }; body = body }
  packet_is body e =
      ap (λ (x : ℕ). let q : Packet = record { stamp = p.stamp; to = record { 0 = x }; body = p.body } in q) own ∙ ap (λ (x : Body). let q : Packet = record { stamp = p.stamp; to = record { 0 = i }; body = x } in q) e

  split_as : (body : Body) → p.body ≡ body → SamePackets (setup.net.under st.carrier) ((record { stamp = p.stamp; to = record { 0 = i }; body = body }) ∷ rest)
  split_as body e = subst (λ (q : Packet). SamePackets (setup.net.under st.carrier) (q ∷ rest)) (packet_is body e) split

  came_zero : (t : Packet → Bool) → count_by t (setup.net.under st.carrier) ≡ 0 → t p ≡ false
  came_zero t z =
      let f : Packet → ℕ = λ (q : Packet). cond (t q) 1 0 in
      let y : sum_to setup.size (λ j. weighs f (setup.net.arrival st.carrier j)) ≡ 0 = omega (arith, c.came f) in
      none (t p) (sym (ap (weighs f) here) ∙ sum_zero setup.size (λ j. weighs f (setup.net.arrival st.carrier j)) y i l)
    where
      none : (b : Bool) → (let n : ℕ = cond b 1 0 in n ≡ 0) → b ≡ false
      none true h = absurd (omega arith)
      none false h = refl

  running_arrives : IsRunning setup st → (body : Body) → p.body ≡ body → is_body_for setup.tables i body ≡ true → CanArrive (st.leaves i) body
  running_arrives h (Data j n w) e f =
      let k : LinkedIn setup.tables i j.0 = linked_in setup.tables i j.0 f in
      may_data setup.window setup.tables (net_of setup st) (record { from = k.from; out = k.out; to = i; inn = j.0 }) n w p.stamp rest k.link h.accounted (split_as (Data j n w) e)
  running_arrives h (Credit j n) e f =
      let k : LinkedOut setup.tables i j.0 = linked_out setup.tables i j.0 f in
      may_credit setup.window setup.tables (net_of setup st) (record { from = i; out = j.0; to = k.to; inn = k.inn }) n p.stamp rest k.link h.accounted (split_as (Credit j n) e)
  running_arrives h (Config s row) e f = absurd (let x : false ≡ true = f in cc)

  idle_begun : (window j : ℕ) (rows : List (Option Row)) → is_idle (begun window j rows) ≡ true
  idle_begun window j rows = refl

  entry_arrives : IsConfiguring setup st → (body : Body) → body_is_right setup.tables setup.size i body ≡ true → CanArrive (st.leaves i) body
  entry_arrives h (Data j n w) f = absurd (let x : false ≡ true = f in cc)
  entry_arrives h (Credit j n) f = absurd (let x : false ≡ true = f in cc)
  entry_arrives h (Config s row) f =
      let a = both (nat_lt i setup.size) _ f in
      let b = both (nat_lt s 16) _ a.1 in
      (lt_true s 16 b.0, ap is_idle (h.leaf i l) ∙ idle_begun setup.window i (st.leaves i).rows)

  pub arrives : IsWorld setup st → CanArrive (st.leaves i) p.body
  arrives (Configuring busy h) =
      entry_arrives h p.body (subst (λ (x : ℕ). body_is_right setup.tables setup.size x p.body ≡ true) own (not_false (body_is_right setup.tables setup.size p.to.0 p.body) (came_zero (is_wrong setup.tables setup.size) h.under)))
  arrives (Running h) =
      running_arrives h p.body refl (subst (λ (x : ℕ). is_body_for setup.tables x p.body ≡ true) own (not_false (is_body_for setup.tables p.to.0 p.body) (came_zero (is_stray setup.tables) h.for_ends)))

-- WHAT COMES to a leaf for it may arrive there, once the host has done its part
pub what_comes_arrives : {S : Type 0} (setup : Setup S) (st : State S) (i : ℕ) (p : Packet) → IsSound setup → Carries setup (ready setup st) → IsWhole setup st → i < setup.size → setup.net.arrival (ready setup st).carrier i ≡ Some p → p.to.0 ≡ i → CanArrive ((ready setup st).leaves i) p.body
what_comes_arrives setup st i p sound c w l here own = arrives setup (ready setup st) sound c i l p here own (ready_whole setup st sound w.world)
