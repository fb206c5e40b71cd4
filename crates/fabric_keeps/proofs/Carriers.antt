-- A network that is as a run asks.
use Rattle.std.proofs.Common.{◌≡◌, ℕ, zero, suc, ◌+◌, ◌<◌, ◌≤◌, not, Bool, true, false, cond, List, [], ◌∷◌, refl, ap, sym, ◌∙◌, arith, Option, Some, None, subst, inl, inr}
use Rattle.std.specs.Prelude.{if◌then◌else◌, ◌==◌, nat_lt}
use Rattle.std.specs.List.{sum_by, count_by}
use Rattle.std.proofs.lemmas.Bool.Decides.{nat_tests}
use Rattle.std.proofs.lemmas.List.Sums.{sum_by-cons}
use Rattle.net_switch.specs.declared.packet.Packet.{Packet}
use Rattle.net_switch.specs.declared.packet.Body.TheVariants.{Config}
use Rattle.net_switch.specs.Switch.{weighs}
use Rattle.net_tree.specs.Links.{sum_to}
use Rattle.leaf_port.specs.declared.tables.ConfigEntry.{ConfigEntry}
use Rattle.leaf_port.specs.Leaf.{LeafState, injected, offered}
use Rattle.fabric_run.specs.World.{Carrier, Setup, State, ready, taken_in, first_of_list, entry_for, offer_of, offers_of, start}
use Rattle.fabric_run.specs.Replay.{may, after, run, replay, IsLegal, IsLegalFrom}
use Rattle.fabric_run.specs.declared.entry.Entry.{Entry}
use Rattle.fabric_run.specs.declared.entry.Entry.TheVariants.{Take, Give, Net}
use Rattle.fabric_keeps.specs.Facts.{Carries, RunsWell, is_outside}
use Rattle.fabric_keeps.specs.Links.{is_body_for, is_stray, IsSound, IsRunning}
use Rattle.fabric_keeps.specs.Configuring.{is_right, body_is_right, is_wrong_entry, is_wrong, IsConfiguring}
use Rattle.fabric_keeps.specs.Whole.{IsWorld, Configuring, Running, IsWhole}
use Rattle.fabric_keeps.specs.Carriers.{IsOffer, AreOffers, net_at, HasRun, Keeps, IsCarrier}
use Rattle.fabric_keeps.proofs.Base.{both, same_eq, differ, lt_true, sum_zero, sum_same, last_or}
use Rattle.fabric_keeps.proofs.Steps.{HostKeeps, ready_keeps}
use Rattle.fabric_keeps.proofs.Steady.{given_keeps}
use Rattle.fabric_keeps.proofs.Counted.{given_rounds}
use Rattle.fabric_keeps.proofs.AtLeaf.{stray, not_stray, offer_stray}
use Rattle.fabric_keeps.proofs.Configures.{begun, entry_weight, ConfigStep, config_step}
use Rattle.fabric_keeps.proofs.Offering.{for_end, right_end, offer_back, offer_is_new, own_of, ready_whole}
use Rattle.fabric_keeps.proofs.Whole.{whole_keeps}
use Rattle.fabric_keeps.proofs.Starting.{start_whole}

none_some : {X : Type 0} (x : X) → None ≡ Some x → ⊥
none_some x e = cc

lt_of : (a b : ℕ) → a < b → nat_lt a b ≡ true
lt_of a b h = grind (arith, nat_tests)

passed : (b : Bool) → (let n : ℕ = cond (not b) 1 0 in n ≡ 0) → b ≡ true
passed true h = refl
passed false h = absurd (omega arith)

none_of : (b : Bool) → (let n : ℕ = cond b 1 0 in n ≡ 0) → b ≡ false
none_of true h = absurd (omega arith)
none_of false h = refl

not_false : (b : Bool) → not b ≡ false → b ≡ true
not_false true h = refl
not_false false h = absurd (let x : true ≡ false = h in cc)

module _ {S : Type 0} (setup : Setup S) (sound : IsSound setup) (st : State S) (k : Keeps setup.net setup.size st.carrier) (back : (i : ℕ) → i < setup.size → (st.leaves i).back ≡ None) where
  abbrev coming : ℕ → Option Packet
  coming i = setup.net.arrival st.carrier i

  came_zero : (t : Packet → Bool) → count_by t (setup.net.under st.carrier) ≡ 0 → (i : ℕ) → i < setup.size → (p : Packet) → coming i ≡ Some p → t p ≡ false
  came_zero t z i l p e =
      let f : Packet → ℕ = λ (q : Packet). cond (t q) 1 0 in
      let y : sum_to setup.size (λ j. weighs f (coming j)) ≡ 0 = omega (arith, k.came f) in
      none_of (t p) (sym (ap (weighs f) e) ∙ sum_zero setup.size (λ j. weighs f (coming j)) y i l)

  -- once the new rows stand
  running_inside : IsRunning setup st → (i : ℕ) → i < setup.size → (q : Packet) → (offer_of setup st i).1 ≡ Some q → q.to.0 < setup.size
  running_inside h i l q e =
      let fits : (p : Packet) → coming i ≡ Some p → is_body_for setup.tables p.to.0 p.body ≡ true = λ p f. not_false (is_body_for setup.tables p.to.0 p.body) (came_zero (is_stray setup.tables) h.for_ends i l p f) in
      let no_entry : entry_for i st.entries ≡ None = no_entry_at i st.entries h.no_entries in
      let out : (offered (taken_in (st.leaves i) (coming i)) st.rounds None).1 ≡ Some q = sym (ap (λ (c : Option ConfigEntry). (offered (taken_in (st.leaves i) (coming i)) st.rounds c).1) no_entry) ∙ e in
      let few : weighs (stray setup.tables) (offered (taken_in (st.leaves i) (coming i)) st.rounds None).1 ≤ weighs (stray setup.tables) (coming i) = offer_stray setup.window setup.tables i (st.leaves i) (coming i) st.rounds (back i l) fits (h.leaf i l) in
      let zero_ : sum_to setup.size (λ j. weighs (stray setup.tables) (coming j)) ≡ 0 = omega (arith, k.came (stray setup.tables), h.for_ends) in
      let here : weighs (stray setup.tables) (coming i) ≡ 0 = sum_zero setup.size (λ j. weighs (stray setup.tables) (coming j)) zero_ i l in
      let none : stray setup.tables q ≡ 0 = omega (arith, ap (weighs (stray setup.tables)) out) in
      for_end setup sound q.to.0 q.body (not_stray setup.tables q none)
    where
      no_entry_at : (i : ℕ) (es : List ConfigEntry) → es ≡ [] → entry_for i es ≡ None
      no_entry_at zero es e = ap (entry_for 0) e
      no_entry_at (suc i) es e = refl

  -- while entries are on their way
  abbrev outside : Packet → ℕ
  outside p = cond (is_outside setup.size p) 1 0

  inside_zero : (p : Packet) → p.to.0 < setup.size → outside p ≡ 0
  inside_zero p l = ap (λ (b : Bool). let n : ℕ = cond (not b) 1 0 in n) (lt_of p.to.0 setup.size l)

  right_inside : (p : Packet) → is_wrong setup.tables setup.size p ≡ false → p.to.0 < setup.size
  right_inside p w = lt_true p.to.0 setup.size (right_end setup sound p.to.0 p.body (not_false (body_is_right setup.tables setup.size p.to.0 p.body) w))

  first_right : (es : List ConfigEntry) → count_by (is_wrong_entry setup.tables setup.size) es ≡ 0 → (e : ConfigEntry) → first_of_list es ≡ Some e → e.leaf.0 < setup.size
  first_right [] h e f = absurd (none_some e f)
  first_right (x ∷ xs) h e f =
      let s : x ≡ e = (let y : Some x ≡ Some e = f in cc) in
      let c : count_by (is_wrong_entry setup.tables setup.size) (x ∷ xs) ≡ (let n : ℕ = cond (is_wrong_entry setup.tables setup.size x) 1 0 in n) + count_by (is_wrong_entry setup.tables setup.size) xs = sum_by-cons (λ (y : ConfigEntry). cond (is_wrong_entry setup.tables setup.size y) 1 0) x xs in
      let r : is_right setup.tables setup.size x.leaf.0 x.slot x.row ≡ true = passed (is_right setup.tables setup.size x.leaf.0 x.slot x.row) (omega (arith, c)) in
      subst (λ (y : ConfigEntry). y.leaf.0 < setup.size) s (lt_true x.leaf.0 setup.size (both (nat_lt x.leaf.0 setup.size) _ r).0)

  entry_zero : IsConfiguring setup st → (i : ℕ) (c : Option ConfigEntry) → entry_for i st.entries ≡ c → (b : Option Packet) → entry_weight outside i st.rounds c b ≡ 0
  entry_zero h i c e (Some p) = refl
  entry_zero h i None e None = refl
  entry_zero h zero (Some x) e None = inside_zero (injected 0 st.rounds x.leaf.0 (Config x.slot x.row)) (first_right st.entries h.left x e)
  entry_zero h (suc i) (Some x) e None = absurd (none_some x e)

  coming_zero : IsConfiguring setup st → (i : ℕ) → i < setup.size → (o : Option Packet) → coming i ≡ o → weighs outside o ≡ 0
  coming_zero h i l None e = refl
  coming_zero h i l (Some p) e = inside_zero p (right_inside p (came_zero (is_wrong setup.tables setup.size) h.under i l p e))

  configuring_inside : IsConfiguring setup st → (i : ℕ) → i < setup.size → (q : Packet) → (offer_of setup st i).1 ≡ Some q → q.to.0 < setup.size
  configuring_inside h i l q e =
      let rows = (st.leaves i).rows in
      let s : ConfigStep setup.window setup.tables i st.rounds rows (coming i) (entry_for i st.entries) = config_step setup.window setup.tables setup.size i st.rounds rows (coming i) (entry_for i st.entries) (h.many i l) (came_zero (is_wrong setup.tables setup.size) h.under i l) in
      let leaf : st.leaves i ≡ begun setup.window i rows = h.leaf i l in
      let out : (offered (taken_in (begun setup.window i rows) (coming i)) st.rounds (entry_for i st.entries)).1 ≡ Some q = sym (ap (λ (x : LeafState). (offered (taken_in x (coming i)) st.rounds (entry_for i st.entries)).1) leaf) ∙ e in
      let w : weighs outside (offered (taken_in (begun setup.window i rows) (coming i)) st.rounds (entry_for i st.entries)).1 ≡ weighs outside (coming i) + entry_weight outside i st.rounds (entry_for i st.entries) (taken_in (begun setup.window i rows) (coming i)).back =
      s.goes outside (λ p f to. inside_zero p (right_inside p (came_zero (is_wrong setup.tables setup.size) h.under i l p f))) in
      let z : outside q ≡ 0 = omega (arith, ap (weighs outside) out, coming_zero h i l (coming i) refl, entry_zero h i (entry_for i st.entries) refl (taken_in (begun setup.window i rows) (coming i)).back) in
      lt_true q.to.0 setup.size (passed (nat_lt q.to.0 setup.size) z)

  inside : IsWorld setup st → (i : ℕ) → i < setup.size → (q : Packet) → (offer_of setup st i).1 ≡ Some q → q.to.0 < setup.size
  inside (Configuring busy h) = configuring_inside h
  inside (Running h) = running_inside h

  offer_at : (i : ℕ) → i < setup.size → offers_of setup st i ≡ (offer_of setup st i).1
  offer_at i l = ap (λ (b : Bool). if b then (offer_of setup st i).1 else None) (lt_of i setup.size l)

  is_offer : IsWorld setup st → (i : ℕ) → i < setup.size → IsOffer setup.size st.rounds i (coming i) (offers_of setup st i)
  is_offer w i l =
      let own : (st.leaves i).own ≡ i = own_of setup st w i l in
      record {
        back = λ p e h.
            offer_at i l
            ∙ (ap (λ (y : Option Packet). (offered (taken_in (st.leaves i) y) st.rounds (entry_for i st.entries)).1) e
            ∙ offer_back (st.leaves i) p st.rounds (entry_for i st.entries) (λ (t : p.to.0 ≡ (st.leaves i).own). h (t ∙ own)));
        new = λ q e. (
            let f : (offer_of setup st i).1 ≡ Some q = sym (offer_at i l) ∙ e in
            elim (offer_is_new (st.leaves i) (coming i) st.rounds (entry_for i st.entries) q (back i l) f) [
              | inl h ↦ inl (h.0, λ (t : q.to.0 ≡ i). h.1 (t ∙ sym own))
              | inr h ↦ inr (record { in_round = h.0; by_leaf = h.1 ∙ own; for_leaf = inside w i l q f })
            ]);
      }

  -- what the leaves of a state offer
  pub are_offers : IsWorld setup st → AreOffers setup.net setup.size st.rounds st.carrier (offers_of setup st)
  are_offers w = record {
    each = is_offer w;
    none = λ i l. (let z : nat_lt i setup.size ≡ false = grind (arith, nat_tests) in ap (λ (b : Bool). if b then (offer_of setup st i).1 else None) z);
  }

  pub carries : IsWorld setup st → Carries setup st
  carries w = record {
    kept = k.kept;
    came = k.came;
    goes = λ f. k.goes st.rounds (offers_of setup st) (are_offers w) f ∙ ap (λ (n : ℕ). sum_by f k.kept + n) (sum_same setup.size (λ i. weighs f (offers_of setup st i)) (λ i. weighs f (offer_of setup st i).1) (λ i l. ap (weighs f) (offer_at i l)));
  }

-- Rounds, one after another.

net_same : {S : Type 0} (net : Carrier S) (o p : ℕ → ℕ → Option Packet) (t : ℕ) → ((s : ℕ) → s < t → p s ≡ o s) → net_at {S = S} net p t ≡ net_at net o t
net_same net o p zero h = refl
net_same {S = S} net o p (suc t) h =
    ap (λ (c : S). net.carried c (p t)) (net_same net o p t (λ s l. h s (omega arith))) ∙ ap (λ (f : ℕ → Option Packet). net.carried (net_at net o t) f) (h t (omega arith))

abbrev then_offers : (ℕ → ℕ → Option Packet) → ℕ → (ℕ → Option Packet) → ℕ → ℕ → Option Packet
then_offers o r new t = if t == r then new else o t

pub goes_on : {S : Type 0} (setup : Setup S) (r : ℕ) (c : S) (new : ℕ → Option Packet) → HasRun setup.net setup.size r c → AreOffers setup.net setup.size r c new → HasRun setup.net setup.size (r + 1) (setup.net.carried c new)
goes_on {S = S} setup r c new h a =
    let o : ℕ → ℕ → Option Packet = h.offers in
    let p : ℕ → ℕ → Option Packet = then_offers o r new in
    let before : (s : ℕ) → s < r → p s ≡ o s = λ s l. ap (λ (b : Bool). if b then new else o s) (differ s r (λ e. omega arith)) in
    let here : p r ≡ new = ap (λ (b : Bool). if b then new else o r) (same_eq r r refl) in
    let at : (t : ℕ) → t ≤ r → net_at setup.net p t ≡ net_at setup.net o t = λ t l. net_same setup.net o p t (λ s m. before s (omega arith)) in
    let last : r + 1 ≡ suc r = omega arith in
    record {
      offers = p;
      each = λ t l. elim (last_or r t (omega arith)) [
        | inl e ↦ subst (λ (x : ℕ). AreOffers setup.net setup.size x (net_at setup.net p x) (p x)) (sym e)
            (subst (λ (x : S). AreOffers setup.net setup.size r x (p r)) (h.same ∙ sym (at r (omega arith))) (subst (λ (f : ℕ → Option Packet). AreOffers setup.net setup.size r c f) (sym here) a))
        | inr m ↦ subst (λ (x : S). AreOffers setup.net setup.size t x (p t)) (sym (at t (omega arith)))
            (subst (λ (f : ℕ → Option Packet). AreOffers setup.net setup.size t (net_at setup.net o t) f) (sym (before t m)) (h.each t m))
      ];
      same = ap (λ (x : S). setup.net.carried x new) (h.same ∙ sym (at r (omega arith))) ∙ (ap (λ (f : ℕ → Option Packet). setup.net.carried (net_at setup.net p r) f) (sym here) ∙ ap (λ (n : ℕ). net_at setup.net p n) (sym last));
    }

record IsGoing {S : Type 0} (setup : Setup S) (st : State S) : Type 0 where
  whole : IsWhole setup st
  ran : HasRun setup.net setup.size st.rounds st.carrier

module _ {S : Type 0} (setup : Setup S) (most : ℕ) (sound : IsSound setup) (carrier : IsCarrier setup.net setup.size most) where
  ready_ran : (st : State S) → HasRun setup.net setup.size st.rounds st.carrier → HasRun setup.net setup.size (ready setup st).rounds (ready setup st).carrier
  ready_ran st h =
      let k : HostKeeps setup st (ready setup st) = ready_keeps setup st in
      subst (λ (r : ℕ). HasRun setup.net setup.size r (ready setup st).carrier) (sym k.rounds) (subst (HasRun setup.net setup.size st.rounds) (sym k.carrier) h)

  ready_back : (st : State S) → IsGoing setup st → (i : ℕ) → i < setup.size → ((ready setup st).leaves i).back ≡ None
  ready_back st g i l = (ready_keeps setup st).back i ∙ g.whole.steady.back i l

  ready_kept : (st : State S) → IsGoing setup st → Keeps setup.net setup.size (ready setup st).carrier
  ready_kept st g = carrier.keeps (ready setup st).rounds (ready setup st).carrier (ready_ran st g.ran)

  going_carries : (st : State S) → IsGoing setup st → Carries setup (ready setup st)
  going_carries st g = carries setup sound (ready setup st) (ready_kept st g) (ready_back st g) (ready_whole setup st sound g.whole.world)

  ran_on : (st : State S) (e : Entry) → IsGoing setup st → HasRun setup.net setup.size (after setup st e).rounds (after setup st e).carrier
  ran_on st (Take seat leaf) g = g.ran
  ran_on st (Give seat leaf) g =
      subst (λ (r : ℕ). HasRun setup.net setup.size r (after setup st (Give seat leaf)).carrier) (sym (given_rounds setup st leaf (st.pages leaf)))
      (subst (HasRun setup.net setup.size st.rounds) (sym (given_keeps setup st leaf (st.pages leaf)).carrier) g.ran)
  ran_on st (Net seat) g =
      goes_on setup (ready setup st).rounds (ready setup st).carrier (offers_of setup (ready setup st)) (ready_ran st g.ran)
      (are_offers setup sound (ready setup st) (ready_kept st g) (ready_back st g) (ready_whole setup st sound g.whole.world))

  going_keeps : (st : State S) (e : Entry) → may setup st e ≡ true → IsGoing setup st → IsGoing setup (after setup st e)
  going_keeps st e m g = record { whole = whole_keeps setup st e sound (going_carries st g) m g.whole; ran = ran_on st e g }

  going_run : (st : State S) (es : List Entry) → IsLegalFrom setup st es → IsGoing setup st → IsGoing setup (run setup st es)
  going_run st [] l g = g
  going_run st (e ∷ es) l g = going_run (after setup st e) es l.1 (going_keeps st e l.0 g)

  start_going : IsGoing setup (start setup)
  start_going = record {
    whole = start_whole setup sound carrier.begins;
    ran = record { offers = λ t i. None; each = λ t l. absurd (omega arith); same = refl };
  }

  going : (es : List Entry) → IsLegal setup es → IsGoing setup (replay setup es)
  going es l = going_run (start setup) es l start_going

  -- A NETWORK that is as a run asks serves every legal journal
  pub runs_well : RunsWell setup most
  runs_well = record {
    some = sound.some;
    begins = carrier.begins;
    carries = λ es l. going_carries (replay setup es) (going es l);
    aged = λ es l. carrier.young (replay setup es).rounds (replay setup es).carrier (going es l).ran;
  }

  -- and it is as it is after so many rounds
  pub network_ran : (es : List Entry) → IsLegal setup es → HasRun setup.net setup.size (replay setup es).rounds (replay setup es).carrier
  network_ran es l = (going es l).ran
