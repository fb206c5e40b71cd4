-- What each entry keeps, of leaves, pages and packets, whatever carries these.
use Rattle.std.proofs.Common.{◌≡◌, ℕ, ◌+◌, ◌<◌, ◌≤◌, not, Bool, true, false, cond, List, [], ◌∷◌, get_or, refl, ap, sym, ◌∙◌, arith, Option, Some, None, subst, inl, inr}
use Rattle.std.specs.Prelude.{if◌then◌else◌, ◌==◌, nat_lt, is_none}
use Rattle.std.specs.List.{sum_by, count_by}
use Rattle.std.proofs.lemmas.Bool.Decides.{nat_tests}
use Rattle.std.proofs.lemmas.List.Sums.{sum_by-cons}
use Rattle.pld_base.specs.declared.event.PortNo.{PortNo}
use Rattle.net_switch.specs.declared.packet.Row.{Row}
use Rattle.net_switch.specs.declared.packet.Packet.{Packet}
use Rattle.net_switch.specs.declared.packet.Body.{Body}
use Rattle.net_switch.specs.declared.packet.Body.TheVariants.{Data, Credit, Config}
use Rattle.leaf_port.specs.declared.ports.Waiting.{Waiting}
use Rattle.leaf_port.specs.declared.tables.ConfigEntry.{ConfigEntry}
use Rattle.leaf_port.specs.Leaf.{LeafState, in_port, delivered, owed_from, injected, to_other_end, offer_word, offer_own, offer_new, offer_first, offered, row_of, can_write, next_word, wrote, took}
use Rattle.leaf_port.specs.Ports.{fresh_in}
use Rattle.net_tree.specs.Links.{sum_to}
use Rattle.pld_base.specs.Machine.{Stops}
use Rattle.fabric_keeps.proofs.Walks.{EndsAt, turn_ends}
use Rattle.pld_image.specs.Cores.{Core, next}
use Rattle.pld_image.specs.declared.page.TurnEnd.{TurnEnd}
use Rattle.pld_image.specs.declared.page.TurnEnd.TheVariants.{AtRead, AtWrite, Ended, Limit}
use Rattle.fabric_run.specs.Turns.{Turned, turn, stopped}
use Rattle.fabric_run.specs.World.{Setup, State, PageState, placed, start_page, taken_in, entry_for, offer_of, moved, after_net, read_given, write_given, given_at, given, out_to, is_configured, ready}
use Rattle.fabric_run.specs.Replay.{has_ended, is_ready, goes_on, may, after}
use Rattle.fabric_run.specs.declared.entry.Entry.{Entry}
use Rattle.fabric_run.specs.declared.entry.Entry.TheVariants.{Take, Give, Net}
use Rattle.fabric_keeps.specs.Measure.{body_load}
use Rattle.net_switch.specs.Switch.{weighs}
use Rattle.fabric_keeps.specs.Facts.{Carries, IsPage, is_light, is_new, Steady}
use Rattle.fabric_keeps.proofs.Base.{both, not_true, lt_true, sum_le, placed_here, placed_other}
use Rattle.fabric_keeps.proofs.LeafRound.{IsOwed, owed_there, delivered_back}
use Rattle.fabric_keeps.proofs.Turns.{again_at_read, again_at_write}
use Rattle.fabric_keeps.proofs.Steps.{HostKeeps, ready_keeps}
use Rattle.fabric_keeps.proofs.Base.{same_or}

-- a leaf has nothing to send back after its offer
word_back : (s : LeafState) (r : ℕ) (box : List Waiting) → (offer_word s r box).0.back ≡ s.back
word_back s r [] = refl
word_back s r (w ∷ ws) = refl

own_back : (s : LeafState) (r : ℕ) (o : Option ℕ) → (offer_own s r o).0.back ≡ s.back
own_back s r None = word_back s r s.box
own_back s r (Some j) = refl

new_back : (s : LeafState) (r : ℕ) (c : Option ConfigEntry) → (offer_new s r c).0.back ≡ s.back
new_back s r (Some e) = refl
new_back s r None = own_back s r (owed_from 0 s.ins)

first_back : (s : LeafState) (r : ℕ) (c : Option ConfigEntry) (back : Option Packet) → s.back ≡ back → (offer_first s r c back).0.back ≡ None
first_back s r c None e = new_back s r c ∙ e
first_back s r c (Some p) e = refl

pub offered_back : (s : LeafState) (r : ℕ) (c : Option ConfigEntry) → (offered s r c).0.back ≡ None
offered_back s r c = first_back s r c s.back refl

-- a test that no packet passes that is new in this round
abbrev FailsNew : ℕ → (Packet → ℕ) → Type 0
FailsNew r f = (own to : ℕ) (body : Body) → 1 ≤ body_load body → f (injected own r to body) ≡ 0

other_end_test : (f : Packet → ℕ) (s : LeafState) (r : ℕ) (body : PortNo → Body) (row : Option Row) → FailsNew r f → ((p : PortNo) → 1 ≤ body_load (body p)) → weighs f (to_other_end s r body row) ≡ 0
other_end_test f s r body None h b = refl
other_end_test f s r body (Some row) h b = h s.own row.leaf.0 (body row.port) (b row.port)

word_test : (f : Packet → ℕ) (s : LeafState) (r : ℕ) (box : List Waiting) → FailsNew r f → weighs f (offer_word s r box).1 ≡ 0
word_test f s r [] h = refl
word_test f s r (w ∷ ws) h = other_end_test f s r (λ j. Data j w.number w.word) (row_of s w.port) h (λ p. omega arith)

own_test : (f : Packet → ℕ) (s : LeafState) (r : ℕ) (o : Option ℕ) → owed_from 0 s.ins ≡ o → FailsNew r f → weighs f (offer_own s r o).1 ≡ 0
own_test f s r None e h = word_test f s r s.box h
own_test f s r (Some j) e h =
    let w : IsOwed 0 s.ins j = owed_there 0 s.ins j e in
    let place : j ≡ w.place = w.at ∙ omega arith in
    let some : 0 < (in_port s j).freed = subst (λ (x : ℕ). 0 < (get_or s.ins x (fresh_in s.window)).freed) (sym place) (w.some (fresh_in s.window)) in
    other_end_test f s r (λ k. Credit k (in_port s j).freed) (row_of s (8 + j)) h (λ p. omega arith)

new_test : (f : Packet → ℕ) (s : LeafState) (r : ℕ) (c : Option ConfigEntry) → FailsNew r f → weighs f (offer_new s r c).1 ≡ 0
new_test f s r (Some e) h = h s.own e.leaf.0 (Config e.slot e.row) (omega arith)
new_test f s r None h = own_test f s r (owed_from 0 s.ins) refl h

taken_test : (f g : Packet → ℕ) (s : LeafState) (p : Packet) (r : ℕ) (c : Option ConfigEntry) (own : Bool) → s.back ≡ None → f p ≤ g p → FailsNew r f
    → weighs f (offered (if own then delivered s p.body else record s { back = Some p }) r c).1 ≤ g p
taken_test f g s p r c false b l h = l
taken_test f g s p r c true b l h =
    let e : (delivered s p.body).back ≡ None = delivered_back s p.body ∙ b in
    let z : weighs f (offered (delivered s p.body) r c).1 ≡ weighs f (offer_new (delivered s p.body) r c).1 = ap (λ (x : Option Packet). weighs f (offer_first (delivered s p.body) r c x).1) e in
    omega (arith, new_test f (delivered s p.body) r c h)

offer_test : (f g : Packet → ℕ) (s : LeafState) (o : Option Packet) (r : ℕ) (c : Option ConfigEntry) → s.back ≡ None → ((p : Packet) → f p ≤ g p) → FailsNew r f → weighs f (offered (taken_in s o) r c).1 ≤ weighs g o
offer_test f g s None r c b l h =
    let z : weighs f (offered s r c).1 ≡ weighs f (offer_new s r c).1 = ap (λ (x : Option Packet). weighs f (offer_first s r c x).1) b in
    omega (arith, new_test f s r c h)
offer_test f g s (Some p) r c b l h = taken_test f g s p r c (p.to.0 == s.own) b (l p) h

pub sum_less : (f g : Packet → ℕ) (ps : List Packet) → ((p : Packet) → f p ≤ g p) → sum_by f ps ≤ sum_by g ps
sum_less f g [] h = omega arith
sum_less f g (p ∷ ps) h = omega (arith, h p, sum_less f g ps h, sum_by-cons f p ps, sum_by-cons g p ps)

-- a test that is passed by none of the packets before a round, nor by a new one
moved_test : {S : Type 0} (setup : Setup S) (st : State S) (f g : Packet → ℕ) → ((i : ℕ) → i < setup.size → (st.leaves i).back ≡ None) → Carries setup st → ((p : Packet) → f p ≤ g p) → FailsNew st.rounds f
    → sum_by g (setup.net.under st.carrier) ≡ 0 → sum_by f (setup.net.under (moved setup st).carrier) ≡ 0
moved_test setup st f g back c l h z =
    let offers : sum_to setup.size (λ i. weighs f (offer_of setup st i).1) ≤ sum_to setup.size (λ i. weighs g (setup.net.arrival st.carrier i)) =
    sum_le setup.size (λ i. weighs f (offer_of setup st i).1) (λ i. weighs g (setup.net.arrival st.carrier i)) (λ i m. offer_test f g (st.leaves i) (setup.net.arrival st.carrier i) st.rounds (entry_for i st.entries) (back i m) l h) in
    let goes : sum_by f (setup.net.under (moved setup st).carrier) ≡ sum_by f c.kept + sum_to setup.size (λ i. weighs f (offer_of setup st i).1) = c.goes f in
    omega (arith, c.came g, sum_less f g c.kept l)

abbrev light_of : Packet → ℕ
light_of p = cond (is_light p) 1 0

abbrev new_of : ℕ → Packet → ℕ
new_of r p = cond (is_new r p) 1 0

light_new : (r : ℕ) → FailsNew r light_of
light_new r s to body h =
    let e : (body_load body == 0) ≡ false = grind (arith, nat_tests) in
    rw e refl

new_new : (r : ℕ) → FailsNew r (new_of (r + 1))
new_new r s to body h =
    let e : nat_lt r (r + 1) ≡ true = grind (arith, nat_tests) in
    rw e refl

new_less : (r : ℕ) (p : Packet) → new_of (r + 1) p ≤ new_of r p
new_less r p = tests (nat_lt p.stamp.round.0 (r + 1)) (nat_lt p.stamp.round.0 r) (λ t. (let l : p.stamp.round.0 < r = lt_true p.stamp.round.0 r t in grind (arith, nat_tests)))
  where
    tests : (s t : Bool) → (t ≡ true → s ≡ true) → (let x : ℕ = cond (not s) 1 0 in let y : ℕ = cond (not t) 1 0 in x ≤ y)
    tests true true h = omega arith
    tests true false h = omega arith
    tests false true h = absurd (let x : false ≡ true = h refl in cc)
    tests false false h = omega arith

-- pages
same_page : (p q : PageState) → Some p ≡ Some q → p ≡ q
same_page p q e = cc

none_page : (p : PageState) → None ≡ Some p → ⊥
none_page p e = cc

net_page_at : (o : Option PageState) (p : PageState) → ((q : PageState) → o ≡ Some q → IsPage q) → after_net o ≡ Some p → IsPage p
net_page_at None p h e = absurd (none_page p e)
net_page_at (Some q) p h e =
    let k : IsPage q = h q refl in
    subst IsPage (same_page (record q { gives = 0 }) p e) (record { home = k.home; at_read = k.at_read; at_write = k.at_write; at_end = k.at_end })

-- one page in place of another
placed_page : (pages : ℕ → Option PageState) (i : ℕ) (q : PageState) → IsPage q → ((j : ℕ) (p : PageState) → pages j ≡ Some p → IsPage p) → (j : ℕ) (p : PageState) → placed pages i (Some q) j ≡ Some p → IsPage p
placed_page pages i q k h j p e =
    elim (same_or j i (j == i) refl) [
      | inl s ↦ subst IsPage (same_page q p (sym (ap (placed pages i (Some q)) s ∙ placed_here pages i (Some q)) ∙ e)) k
      | inr n ↦ h j p (sym (placed_other pages i (Some q) j n) ∙ e)
    ]

open_page : (p : PageState) → p.end ≡ None → IsPage p
open_page p e = record {
  home = λ t. absurd (let x : false ≡ true = sym (ap has_ended e) ∙ t in cc);
  at_read = λ j t. absurd (let x : None ≡ Some (AtRead j) = sym e ∙ t in cc);
  at_write = λ k w t. absurd (let x : None ≡ Some (AtWrite k w) = sym e ∙ t in cc);
  at_end = λ t. absurd (let x : None ≡ Some Ended = sym e ∙ t in cc);
}

ended_page : (p : PageState) → p.end ≡ Some Ended → next p.core ≡ Stops → p.holder ≡ None → IsPage p
ended_page p e stop h = record {
  home = λ t. h;
  at_read = λ j t. absurd (let x : Some Ended ≡ Some (AtRead j) = sym e ∙ t in (let y : Ended ≡ AtRead j = cc in cc));
  at_write = λ k w t. absurd (let x : Some Ended ≡ Some (AtWrite k w) = sym e ∙ t in (let y : Ended ≡ AtWrite k w = cc in cc));
  at_end = λ t. stop;
}

read_page : (p : PageState) (i : PortNo) → p.end ≡ Some (AtRead i) → turn p.core ≡ stopped p.core (AtRead i) → p.holder ≡ None → IsPage p
read_page p i e t h = record {
  home = λ _. h;
  at_read = λ j s. t ∙ ap (stopped p.core) (let x : Some (AtRead i) ≡ Some (AtRead j) = sym e ∙ s in (let y : AtRead i ≡ AtRead j = cc in y));
  at_write = λ k w s. absurd (let x : Some (AtRead i) ≡ Some (AtWrite k w) = sym e ∙ s in (let y : AtRead i ≡ AtWrite k w = cc in cc));
  at_end = λ s. absurd (let x : Some (AtRead i) ≡ Some Ended = sym e ∙ s in (let y : AtRead i ≡ Ended = cc in cc));
}

write_page : (p : PageState) (i : PortNo) (v : ℕ) → p.end ≡ Some (AtWrite i v) → turn p.core ≡ stopped p.core (AtWrite i v) → p.holder ≡ None → IsPage p
write_page p i v e t h = record {
  home = λ _. h;
  at_read = λ j s. absurd (let x : Some (AtWrite i v) ≡ Some (AtRead j) = sym e ∙ s in (let y : AtWrite i v ≡ AtRead j = cc in cc));
  at_end = λ s. absurd (let x : Some (AtWrite i v) ≡ Some Ended = sym e ∙ s in (let y : AtWrite i v ≡ Ended = cc in cc));
  at_write = λ k w s. t ∙ ap (stopped p.core) (let x : Some (AtWrite i v) ≡ Some (AtWrite k w) = sym e ∙ s in (let y : AtWrite i v ≡ AtWrite k w = cc in y));
}

abbrev PagesFine : (ℕ → Option PageState) → Type 0
PagesFine pages = (i : ℕ) (p : PageState) → pages i ≡ Some p → IsPage p

read_fine : {S : Type 0} (setup : Setup S) (st : State S) (i : ℕ) (p : PageState) (j : PortNo) (o : Option ℕ) → (turn p.core).end ≡ AtRead j → PagesFine st.pages → PagesFine (read_given setup st i p (turn p.core) j.0 o).pages
read_fine setup st i p j None e h = placed_page st.pages i _ (read_page _ j refl (again_at_read p.core j e) refl) h
read_fine setup st i p j (Some w) e h = placed_page st.pages i _ (open_page _ refl) h

write_fine : {S : Type 0} (setup : Setup S) (st : State S) (i : ℕ) (p : PageState) (k : PortNo) (w : ℕ) (b : Bool) → (turn p.core).end ≡ AtWrite k w → PagesFine st.pages → PagesFine (write_given setup st i p (turn p.core) k.0 w b).pages
write_fine setup st i p k w false e h = placed_page st.pages i _ (write_page _ k w refl (again_at_write p.core k w e) refl) h
write_fine setup st i p k w true e h = placed_page st.pages i _ (open_page _ refl) h

given_at_fine : {S : Type 0} (setup : Setup S) (st : State S) (i : ℕ) (p : PageState) (end : TurnEnd) → (turn p.core).end ≡ end → PagesFine st.pages → PagesFine (given_at setup st i p (turn p.core) end).pages
given_at_fine setup st i p (AtRead j) e h = read_fine setup st i p j (next_word (st.leaves i) j.0) e h
given_at_fine setup st i p (AtWrite k w) e h = write_fine setup st i p k w (can_write (st.leaves i) k.0) e h
given_at_fine setup st i p Ended e h = placed_page st.pages i _ (ended_page _ refl (subst (λ (x : TurnEnd). EndsAt x (turn p.core).core) e (turn_ends p.core)) refl) h
given_at_fine setup st i p Limit e h = placed_page st.pages i _ (open_page _ refl) h

given_fine : {S : Type 0} (setup : Setup S) (st : State S) (i : ℕ) (o : Option PageState) → PagesFine st.pages → PagesFine (given setup st i o).pages
given_fine setup st i None h = h
given_fine setup st i (Some p) h = given_at_fine setup st i p (turn p.core).end refl h

-- what a Give leaves
pub record GiveKeeps {S : Type 0} (st x : State S) : Type 0 where
  pub back : (j : ℕ) → (x.leaves j).back ≡ (st.leaves j).back
  pub carrier : x.carrier ≡ st.carrier
  pub rounds : x.rounds ≡ st.rounds
  pub entries : x.entries ≡ st.entries

placed_back : (f : ℕ → LeafState) (i : ℕ) (s : LeafState) (j : ℕ) → s.back ≡ (f i).back → (placed f i s j).back ≡ (f j).back
placed_back f i s j h =
    elim (same_or j i (j == i) refl) [
      | inl e ↦ ap (λ (x : LeafState). x.back) (ap (placed f i s) e ∙ placed_here f i s) ∙ (h ∙ ap (λ (k : ℕ). (f k).back) (sym e))
      | inr n ↦ ap (λ (x : LeafState). x.back) (placed_other f i s j n)
    ]

read_keeps : {S : Type 0} (setup : Setup S) (st : State S) (i : ℕ) (p : PageState) (t : Turned) (j : ℕ) (o : Option ℕ) → GiveKeeps st (read_given setup st i p t j o)
read_keeps setup st i p t j None = record { back = λ k. refl; carrier = refl; rounds = refl; entries = refl }
read_keeps setup st i p t j (Some w) = record { back = λ k. placed_back st.leaves i (took (st.leaves i) j) k refl; carrier = refl; rounds = refl; entries = refl }

write_keeps : {S : Type 0} (setup : Setup S) (st : State S) (i : ℕ) (p : PageState) (t : Turned) (k w : ℕ) (b : Bool) → GiveKeeps st (write_given setup st i p t k w b)
write_keeps setup st i p t k w false = record { back = λ j. refl; carrier = refl; rounds = refl; entries = refl }
write_keeps setup st i p t k w true = record { back = λ j. placed_back st.leaves i (wrote (st.leaves i) k w) j refl; carrier = refl; rounds = refl; entries = refl }

given_at_keeps : {S : Type 0} (setup : Setup S) (st : State S) (i : ℕ) (p : PageState) (t : Turned) (end : TurnEnd) → GiveKeeps st (given_at setup st i p t end)
given_at_keeps setup st i p t (AtRead j) = read_keeps setup st i p t j.0 _
given_at_keeps setup st i p t (AtWrite k w) = write_keeps setup st i p t k.0 w _
given_at_keeps setup st i p t Ended = record { back = λ j. refl; carrier = refl; rounds = refl; entries = refl }
given_at_keeps setup st i p t Limit = record { back = λ j. refl; carrier = refl; rounds = refl; entries = refl }

pub given_keeps : {S : Type 0} (setup : Setup S) (st : State S) (i : ℕ) (o : Option PageState) → GiveKeeps st (given setup st i o)
given_keeps setup st i None = record { back = λ j. refl; carrier = refl; rounds = refl; entries = refl }
given_keeps setup st i (Some p) = given_at_keeps setup st i p (turn p.core) (turn p.core).end

-- a Take: only a page that isn't finished goes out
take_page_at : (seat : ℕ) (o : Option PageState) (p : PageState) → is_ready o ≡ true → ((q : PageState) → o ≡ Some q → IsPage q) → out_to seat o ≡ Some p → IsPage p
take_page_at seat None p r h e = absurd (none_page p e)
take_page_at seat (Some q) p r h e =
    let k : IsPage q = h q refl in
    let a = both (is_none q.holder) _ r in
    let b = both (not (has_ended q.end)) _ a.1 in
    subst IsPage (same_page (record q { holder = Some seat }) p e) (record {
      home = λ t. absurd (let x : true ≡ false = sym t ∙ not_true (has_ended q.end) b.0 in cc);
      at_read = k.at_read;
      at_write = k.at_write;
      at_end = k.at_end;
    })

take_fine : {S : Type 0} (st : State S) (seat i : ℕ) → is_ready (st.pages i) ≡ true → PagesFine st.pages → PagesFine (placed st.pages i (out_to seat (st.pages i)))
take_fine st seat i r h j p e =
    elim (same_or j i (j == i) refl) [
      | inl s ↦ take_page_at seat (st.pages i) p r (h i) (sym (ap (placed st.pages i (out_to seat (st.pages i))) s ∙ placed_here st.pages i (out_to seat (st.pages i))) ∙ e)
      | inr n ↦ h j p (sym (placed_other st.pages i (out_to seat (st.pages i)) j n) ∙ e)
    ]

pub steady_keeps : {S : Type 0} (setup : Setup S) (st : State S) (e : Entry) → Steady setup st → Carries setup (ready setup st) → may setup st e ≡ true → Steady setup (after setup st e)
steady_keeps setup st (Take seat leaf) s c m =
    let a = both (goes_on setup st) _ m in
    let b = both (nat_lt leaf setup.size) _ a.1 in
    let d = both (is_configured setup st) _ b.1 in
    record { back = s.back; page = take_fine st seat leaf d.1 s.page; heavy = s.heavy; stamped = s.stamped }
steady_keeps {S = S} setup st (Give seat leaf) s c m =
    let k : GiveKeeps st (given setup st leaf (st.pages leaf)) = given_keeps setup st leaf (st.pages leaf) in
    record {
      back = λ i l. k.back i ∙ s.back i l;
      page = given_fine setup st leaf (st.pages leaf) s.page;
      heavy = ap (λ (x : S). count_by is_light (setup.net.under x)) k.carrier ∙ s.heavy;
      stamped = ap (λ (x : S). count_by (is_new (given setup st leaf (st.pages leaf)).rounds) (setup.net.under x)) k.carrier ∙ (ap (λ (r : ℕ). count_by (is_new r) (setup.net.under st.carrier)) k.rounds ∙ s.stamped);
    }
steady_keeps {S = S} setup st (Net seat) s c m =
    let x : State S = ready setup st in
    let k : HostKeeps setup st x = ready_keeps setup st in
    let back : (i : ℕ) → i < setup.size → (x.leaves i).back ≡ None = λ i l. k.back i ∙ s.back i l in
    let heavy : sum_by light_of (setup.net.under x.carrier) ≡ 0 = ap (λ (y : S). sum_by light_of (setup.net.under y)) k.carrier ∙ s.heavy in
    let stamped : sum_by (new_of x.rounds) (setup.net.under x.carrier) ≡ 0 = ap (λ (y : S). sum_by (new_of x.rounds) (setup.net.under y)) k.carrier ∙ (ap (λ (r : ℕ). sum_by (new_of r) (setup.net.under st.carrier)) k.rounds ∙ s.stamped) in
    record {
      back = λ i l. offered_back (taken_in (x.leaves i) (setup.net.arrival x.carrier i)) x.rounds (entry_for i x.entries);
      page = λ i p e. net_page_at (x.pages i) p (λ q t. s.page i q (sym (ap (λ (f : ℕ → Option PageState). f i) k.pages) ∙ t)) e;
      heavy = moved_test setup x light_of light_of back c (λ p. omega arith) (light_new x.rounds) heavy;
      stamped = moved_test setup x (new_of (x.rounds + 1)) (new_of x.rounds) back c (λ p. new_less x.rounds p) (new_new x.rounds) stamped;
    }

pub start_fine : (o : Option Core) (p : PageState) → start_page o ≡ Some p → IsPage p
start_fine None p e = absurd (none_page p e)
start_fine (Some c) p e = subst IsPage (same_page _ p e) (open_page _ refl)
