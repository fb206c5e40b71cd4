-- A still state stays still, and how a state comes to be still.
use Rattle.std.proofs.Common.{◌≡◌, ℕ, zero, suc, ◌+◌, ◌<◌, ◌≢◌, ◌&&◌, not, Bool, true, false, List, [], ◌∷◌, length, refl, ap, sym, ◌∙◌, arith, Option, Some, None, subst, inl, inr}
use Rattle.std.specs.Prelude.{if◌then◌else◌, ◌==◌, ◌||◌, nat_lt, is_none, is_some, slice_get}
use Rattle.std.specs.List.{sum_by}
use Rattle.std.proofs.lemmas.Bool.Decides.{nat_tests}
use Rattle.std.proofs.lemmas.List.Sums.{sum_by-cons}
use Rattle.net_switch.specs.declared.packet.Packet.{Packet}
use Rattle.leaf_port.specs.Ports.{InState}
use Rattle.leaf_port.specs.declared.tables.ConfigEntry.{ConfigEntry}
use Rattle.leaf_port.specs.Leaf.{LeafState, can_write, next_word, is_idle, is_owed, owed_from}
use Rattle.net_tree.specs.Links.{sum_to}
use Rattle.pld_base.specs.Channels.{InputNode, NodeEvent, family_of}
use Rattle.pld_image.specs.declared.page.TurnEnd.{TurnEnd}
use Rattle.pld_image.specs.declared.page.TurnEnd.TheVariants.{AtRead, AtWrite, Ended, Limit}
use Rattle.fabric_run.specs.Turns.{Turned, stopped}
use Rattle.fabric_run.specs.World.{Setup, State, PageState, placed, each_to, next_feed, sent_by, send, received_by, receive, hosted, is_configured, first_of_list, after_net, moved, round, read_given, write_given, given_at, given, out_to, ready}
use Rattle.fabric_run.specs.Replay.{is_none_left, has_ended, is_blocked, is_page_still, is_held_by, is_seat, is_served, is_still, goes_on, may, after}
use Rattle.fabric_run.specs.declared.entry.Entry.{Entry}
use Rattle.fabric_run.specs.declared.entry.Entry.TheVariants.{Take, Give, Net}
use Rattle.fabric_keeps.specs.Measure.{load, leaf_load, owed}
use Rattle.net_switch.specs.Switch.{weighs}
use Rattle.fabric_keeps.specs.Facts.{Carries, IsPage, Facts}
use Rattle.fabric_keeps.proofs.Base.{same_or, sum_zero, all_zero, placed_here, placed_other, both, not_true, eq_same, lt_true}
use Rattle.fabric_keeps.proofs.Steps.{HostRests, HostKeeps, ready_keeps, moved_step}
use Rattle.fabric_keeps.proofs.Calm.{none_sum, sum_none, Calm, PagesStill, still_of, calm_of, configured}
use Rattle.fabric_ends.proofs.Entries.{Quiet, Covered, GiveRests, NetRests, read_rests, write_rests, moved_rests, take_quiet}

abbrev cannot_send_at : {S : Type 0} → Setup S → ℕ → List NodeEvent → LeafState → Bool
cannot_send_at setup k history s = not (is_some (slice_get (setup.feed k) (length (family_of history (InputNode k)))) && can_write s k)

pub calm_stays : {S : Type 0} (setup : Setup S) (st st' : State S) → 0 < setup.size → Quiet setup st st' → Calm setup st → Calm setup st'
calm_stays setup st st' some q c = record {
  entries = ap (λ (es : List ConfigEntry). is_none_left es) q.entries ∙ c.entries;
  packets = sum_none (setup.net.under st'.carrier) (q.packets (λ (p : Packet). 1) ∙ none_sum (setup.net.under st.carrier) (λ (p : Packet). 1) c.packets);
  idle = λ i l. ap is_idle (q.leaves i l) ∙ c.idle i l;
  hosts = record {
    inputs = λ k l. ap (λ (h : List NodeEvent). cannot_send_at setup k h (st'.leaves 0)) q.history ∙ (ap (λ (s : LeafState). cannot_send_at setup k st.history s) (q.leaves 0 some) ∙ c.hosts.inputs k l);
    outputs = λ j l. ap (λ (s : LeafState). not (is_some (next_word s j))) (q.leaves 0 some) ∙ c.hosts.outputs j l;
  };
}

-- nothing comes where nothing is under way
arrival_none : (o : Option Packet) → weighs (λ (p : Packet). 1) o ≡ 0 → o ≡ None
arrival_none None e = refl
arrival_none (Some p) e = absurd (omega arith)

pub no_arrival : {S : Type 0} (setup : Setup S) (st : State S) → Carries setup (ready setup st) → is_none_left (setup.net.under st.carrier) ≡ true → (i : ℕ) → i < setup.size → setup.net.arrival st.carrier i ≡ None
no_arrival {S = S} setup st c e i l =
    let k : HostKeeps setup st (ready setup st) = ready_keeps setup st in
    let one : Packet → ℕ = λ (p : Packet). 1 in
    let z : sum_by one (setup.net.under (ready setup st).carrier) ≡ 0 = ap (λ (x : S). sum_by one (setup.net.under x)) k.carrier ∙ none_sum (setup.net.under st.carrier) one e in
    let s : sum_to setup.size (λ j. weighs one (setup.net.arrival (ready setup st).carrier j)) ≡ 0 = omega (arith, c.came one) in
    let w : weighs one (setup.net.arrival (ready setup st).carrier i) ≡ 0 = sum_zero setup.size (λ j. weighs one (setup.net.arrival (ready setup st).carrier j)) s i l in
    arrival_none (setup.net.arrival st.carrier i) (sym (ap (λ (x : S). weighs one (setup.net.arrival x i)) k.carrier) ∙ w)

first_none : (es : List ConfigEntry) → first_of_list es ≡ None → is_none_left es ≡ true
first_none [] e = refl
first_none (x ∷ xs) e = absurd (let y : Some x ≡ None = e in cc)

-- a Net that uses nothing up, with no packet under way
pub calm_at_net : {S : Type 0} (setup : Setup S) (st st' : State S) → 0 < setup.size → Carries setup (ready setup st) → is_none_left (setup.net.under st.carrier) ≡ true → NetRests setup st st' → Calm setup st
calm_at_net setup st st' some c e r =
    let entries : is_none_left st.entries ≡ true = first_none st.entries ((r.each 0 some).no_entry (no_arrival setup st c e 0 some)) in
    record {
      entries = entries;
      packets = e;
      idle = λ i l. (r.each i l).idle (no_arrival setup st c e i l);
      hosts = r.hosts (configured setup st entries e);
    }

ended_blocked : (s : LeafState) (end : Option TurnEnd) → (has_ended end || false) ≡ true → is_blocked s end ≡ true
ended_blocked s None e = absurd (let x : false ≡ true = e in cc)
ended_blocked s (Some (AtRead j)) e = absurd (let x : false ≡ true = e in cc)
ended_blocked s (Some (AtWrite k w)) e = absurd (let x : false ≡ true = e in cc)
ended_blocked s (Some Ended) e = refl
ended_blocked s (Some Limit) e = absurd (let x : false ≡ true = e in cc)

net_covered_at : (s : LeafState) (o : Option PageState) → is_served (after_net o) ≡ true → is_page_still s (after_net o) ≡ true
net_covered_at s None e = refl
net_covered_at s (Some p) e = ended_blocked s p.end e

pub net_covered : {S : Type 0} (setup : Setup S) (st st' : State S) → NetRests setup st st' → Covered setup st'
net_covered setup st st' r i l served =
    subst (λ (o : Option PageState). is_page_still (st'.leaves i) o ≡ true) (sym (r.pages i)) (net_covered_at (st'.leaves i) (st.pages i) (subst (λ (o : Option PageState). is_served o ≡ true) (r.pages i) served))

out_still : (s : LeafState) (seat : ℕ) (o : Option PageState) → is_page_still s (out_to seat o) ≡ is_page_still s o
out_still s seat None = refl
out_still s seat (Some p) = refl

out_served : (seat : ℕ) (o : Option PageState) → is_served (out_to seat o) ≡ is_served o
out_served seat None = refl
out_served seat (Some p) = refl

-- after a Take
out_at : (pages : ℕ → Option PageState) (seat leaf i : ℕ) (s : LeafState) → (is_page_still s (placed pages leaf (out_to seat (pages leaf)) i) ≡ is_page_still s (pages i)) × (is_served (placed pages leaf (out_to seat (pages leaf)) i) ≡ is_served (pages i))
out_at pages seat leaf i s =
    elim (same_or i leaf (i == leaf) refl) [
      | inl e ↦ (
          let h : placed pages leaf (out_to seat (pages leaf)) i ≡ out_to seat (pages i) = ap (placed pages leaf (out_to seat (pages leaf))) e ∙ (placed_here pages leaf (out_to seat (pages leaf)) ∙ ap (λ (k : ℕ). out_to seat (pages k)) (sym e)) in
          (ap (is_page_still s) h ∙ out_still s seat (pages i), ap is_served h ∙ out_served seat (pages i)))
      | inr n ↦ (ap (is_page_still s) (placed_other pages leaf (out_to seat (pages leaf)) i n), ap is_served (placed_other pages leaf (out_to seat (pages leaf)) i n))
    ]

pub take_covered : {S : Type 0} (setup : Setup S) (st : State S) (seat leaf : ℕ) → Covered setup st → Covered setup (record st { pages = placed st.pages leaf (out_to seat (st.pages leaf)) })
take_covered setup st seat leaf c i l served =
    (out_at st.pages seat leaf i (st.leaves i)).0 ∙ c i l (sym (out_at st.pages seat leaf i (st.leaves i)).1 ∙ served)

pub take_still : {S : Type 0} (setup : Setup S) (st : State S) (seat leaf : ℕ) → PagesStill setup st → PagesStill setup (record st { pages = placed st.pages leaf (out_to seat (st.pages leaf)) })
take_still setup st seat leaf c i l = (out_at st.pages seat leaf i (st.leaves i)).0 ∙ c i l

-- after a Give that uses nothing up
given_still : {S : Type 0} (setup : Setup S) (st st' : State S) (leaf i : ℕ) → GiveRests setup st leaf st' → (i ≢ leaf → is_page_still (st.leaves i) (st.pages i) ≡ true) → is_page_still (st'.leaves i) (st'.pages i) ≡ true
given_still setup st st' leaf i r other =
    let h : is_page_still (st'.leaves i) (st'.pages i) ≡ is_page_still (st.leaves i) (placed st.pages leaf (Some r.page) i) =
    ap (λ (f : ℕ → LeafState). is_page_still (f i) (st'.pages i)) r.leaves ∙ ap (λ (f : ℕ → Option PageState). is_page_still (st.leaves i) (f i)) r.pages in
    h ∙ (elim (same_or i leaf (i == leaf) refl) [
      | inl e ↦ ap (λ (k : ℕ). is_page_still (st.leaves k) (placed st.pages leaf (Some r.page) k)) e ∙ (ap (is_page_still (st.leaves leaf)) (placed_here st.pages leaf (Some r.page)) ∙ r.blocked)
      | inr n ↦ ap (is_page_still (st.leaves i)) (placed_other st.pages leaf (Some r.page) i n) ∙ other n
    ])

pub give_covered : {S : Type 0} (setup : Setup S) (st st' : State S) (leaf : ℕ) → GiveRests setup st leaf st' → Covered setup st → Covered setup st'
give_covered setup st st' leaf r c i l served =
    given_still setup st st' leaf i r (λ n. c i l (sym (ap is_served (ap (λ (f : ℕ → Option PageState). f i) r.pages ∙ placed_other st.pages leaf (Some r.page) i n)) ∙ served))

pub give_still : {S : Type 0} (setup : Setup S) (st st' : State S) (leaf : ℕ) → GiveRests setup st leaf st' → PagesStill setup st → PagesStill setup st'
give_still setup st st' leaf r c i l = given_still setup st st' leaf i r (λ n. c i l)

-- a page that stands, and cannot do its operation, stands on
standing_at : {S : Type 0} (setup : Setup S) (st : State S) (i : ℕ) (p : PageState) (end : Option TurnEnd) → p.end ≡ end → i < setup.size → st.pages i ≡ Some p → has_ended p.end ≡ false → IsPage p → is_blocked (st.leaves i) end ≡ true
    → GiveRests setup st i (given setup st i (Some p))
standing_at setup st i p None f l e h page b = absurd (let x : false ≡ true = b in cc)
standing_at setup st i p (Some (AtRead j)) f l e h page b =
    let none : next_word (st.leaves i) j.0 ≡ None = none_of (next_word (st.leaves i) j.0) b in
    subst (λ (t : Turned). GiveRests setup st i (given_at setup st i p t t.end)) (sym (page.at_read j f))
    (subst (λ (o : Option ℕ). GiveRests setup st i (read_given setup st i p (stopped p.core (AtRead j)) j.0 o)) (sym none) (read_rests setup st i p (stopped p.core (AtRead j)) j.0 l e h none))
  where
    none_of : (o : Option ℕ) → is_none o ≡ true → o ≡ None
    none_of None e = refl
    none_of (Some x) e = absurd (let y : false ≡ true = e in cc)
standing_at setup st i p (Some (AtWrite k w)) f l e h page b =
    let no : can_write (st.leaves i) k.0 ≡ false = not_true (can_write (st.leaves i) k.0) b in
    subst (λ (t : Turned). GiveRests setup st i (given_at setup st i p t t.end)) (sym (page.at_write k w f))
    (subst (λ (o : Bool). GiveRests setup st i (write_given setup st i p (stopped p.core (AtWrite k w)) k.0 w o)) (sym no) (write_rests setup st i p (stopped p.core (AtWrite k w)) k.0 w l e h no))
standing_at setup st i p (Some Ended) f l e h page b = absurd (let x : true ≡ false = sym (ap has_ended f) ∙ h in cc)
standing_at setup st i p (Some Limit) f l e h page b = absurd (let x : false ≡ true = b in cc)

-- a page that is out is not finished
pub record IsOut (pages : ℕ → Option PageState) (i : ℕ) : Type 0 where
  pub page : PageState
  pub there : pages i ≡ Some page
  pub unfinished : has_ended page.end ≡ false

seat_some : (seat : ℕ) (h : Option ℕ) → is_seat seat h ≡ true → h ≡ None → ⊥
seat_some seat None e f = absurd (let x : false ≡ true = e in cc)
seat_some seat (Some s) e f = absurd (let x : Some s ≡ None = f in cc)

out_open : (p : PageState) (b : Bool) → has_ended p.end ≡ b → IsPage p → (p.holder ≡ None → ⊥) → b ≡ false
out_open p true e page h = absurd (h (page.home e))
out_open p false e page h = refl

held_at : (pages : ℕ → Option PageState) (i seat : ℕ) (o : Option PageState) → pages i ≡ o → ((p : PageState) → pages i ≡ Some p → IsPage p) → is_held_by seat o ≡ true → IsOut pages i
held_at pages i seat None e page h = absurd (let x : false ≡ true = h in cc)
held_at pages i seat (Some p) e page h = record { page = p; there = e; unfinished = out_open p (has_ended p.end) refl (page p e) (seat_some seat p.holder h) }

pub held_out : {S : Type 0} (setup : Setup S) (most : ℕ) (st : State S) (seat i : ℕ) → Facts setup most st → is_held_by seat (st.pages i) ≡ true → IsOut st.pages i
held_out setup most st seat i f h = held_at st.pages i seat (st.pages i) refl (f.page i) h

pub standing_rests : {S : Type 0} (setup : Setup S) (most : ℕ) (st : State S) (seat i : ℕ) → Facts setup most st → i < setup.size → is_held_by seat (st.pages i) ≡ true → PagesStill setup st → GiveRests setup st i (given setup st i (st.pages i))
standing_rests setup most st seat i f l h s =
    let o : IsOut st.pages i = held_out setup most st seat i f h in
    subst (λ (x : Option PageState). GiveRests setup st i (given setup st i x)) (sym o.there)
    (standing_at setup st i o.page o.page.end refl l o.there o.unfinished (f.page i o.page o.there) (subst (λ (x : Option PageState). is_page_still (st.leaves i) x ≡ true) o.there (s i l)))

-- a calm state owes nothing
not_owed : (n : ℕ) (qs : List InState) → is_none (owed_from n qs) ≡ true → sum_by (λ (q : InState). q.freed) qs ≡ 0
not_owed n [] e = refl
not_owed n (q ∷ qs) e = not_owed_at n q qs (is_owed q) refl e (not_owed (n + 1) qs)
  where
    not_owed_at : (n : ℕ) (q : InState) (qs : List InState) (b : Bool) → is_owed q ≡ b → is_none (if b then Some n else owed_from (n + 1) qs) ≡ true
        → (is_none (owed_from (n + 1) qs) ≡ true → sum_by (λ (q : InState). q.freed) qs ≡ 0) → sum_by (λ (q : InState). q.freed) (q ∷ qs) ≡ 0
    not_owed_at n q qs true t e ih = absurd (let x : false ≡ true = e in cc)
    not_owed_at n q qs false t e ih =
        let z : q.freed ≡ 0 = grind (arith, nat_tests) in
        omega (arith, sum_by-cons (λ (x : InState). x.freed) q qs, ih e)

idle_load : (s : LeafState) → is_idle s ≡ true → leaf_load s ≡ 0
idle_load s e =
    let a = both (is_none s.back && is_none (owed_from 0 s.ins)) (length s.box == 0) e in
    let b = both (is_none s.back) (is_none (owed_from 0 s.ins)) a.0 in
    let l : length s.box ≡ 0 = eq_same (length s.box) 0 a.1 in
    omega (arith, not_owed 0 s.ins b.1)

left_none : (es : List ConfigEntry) → is_none_left es ≡ true → length es ≡ 0
left_none [] e = refl
left_none (x ∷ xs) e = absurd (let y : false ≡ true = e in cc)

calm_owed : {S : Type 0} (setup : Setup S) (st : State S) → Calm setup st → owed setup st ≡ 0
calm_owed setup st c =
    omega (arith, left_none st.entries c.entries, none_sum (setup.net.under st.carrier) load c.packets, all_zero setup.size (λ i. leaf_load (st.leaves i)) (λ i l. idle_load (st.leaves i) (c.idle i l)))

-- the host's part where it can do nothing
each_same : {A : Type 0} (n : ℕ) (go : ℕ → A → A) (x : A) → ((k : ℕ) → k < n → go k x ≡ x) → each_to n go x ≡ x
each_same zero go x h = refl
each_same (suc n) go x h = ap (go n) (each_same n go x (λ k l. h k (omega arith))) ∙ h n (omega arith)

sent_same : {S : Type 0} (st : State S) (k : ℕ) (o : Option ℕ) (b : Bool) → not (is_some o && b) ≡ true → sent_by st k o b ≡ st
sent_same st k None b e = refl
sent_same st k (Some w) false e = refl
sent_same st k (Some w) true e = absurd (let x : false ≡ true = e in cc)

received_same : {S : Type 0} (st : State S) (j : ℕ) (o : Option ℕ) → not (is_some o) ≡ true → received_by st j o ≡ st
received_same st j None e = refl
received_same st j (Some w) e = absurd (let x : false ≡ true = e in cc)

hosted_same : {S : Type 0} (setup : Setup S) (st : State S) → HostRests setup st → hosted setup st ≡ st
hosted_same setup st h =
    ap (each_to setup.outputs receive) (each_same setup.inputs (send setup) st (λ k l. sent_same st k (next_feed setup st k) (can_write (st.leaves 0) k) (h.inputs k l)))
    ∙ each_same setup.outputs receive st (λ j l. received_same st j (next_word (st.leaves 0) j) (h.outputs j l))

ready_same_at : {S : Type 0} (setup : Setup S) (st : State S) (b : Bool) → HostRests setup st → (if b then hosted setup st else st) ≡ st
ready_same_at setup st true h = hosted_same setup st h
ready_same_at setup st false h = refl

-- a Net in a calm state uses nothing up
pub calm_net : {S : Type 0} (setup : Setup S) (most : ℕ) (st : State S) → 0 < setup.size → Facts setup most st → Calm setup st → NetRests setup st (round setup st)
calm_net {S = S} setup most st some f c =
    let same : ready setup st ≡ st = ready_same_at setup st (is_configured setup st) c.hosts in
    let carries : Carries setup st = subst (Carries setup) same f.carries in
    subst (λ (x : State S). NetRests setup st (moved setup x)) (sym same) (elim (moved_step setup st some f.back f.heavy carries) [
      | inl a ↦ record { quiet = moved_rests setup st some f.back carries a; each = a; hosts = λ _. c.hosts; pages = λ i. refl }
      | inr g ↦ absurd (omega (arith, calm_owed setup st c))
    ])

net_still_at : (s : LeafState) (o : Option PageState) → is_page_still s (after_net o) ≡ is_page_still s o
net_still_at s None = refl
net_still_at s (Some p) = refl

-- a still state stays still
pub still_stays : {S : Type 0} (setup : Setup S) (most : ℕ) (st : State S) (e : Entry) → 0 < setup.size → Facts setup most st → may setup st e ≡ true → is_still setup st ≡ true → is_still setup (after setup st e) ≡ true
still_stays setup most st (Take seat leaf) some f m s =
    let c = calm_of setup st s in
    let a = both (goes_on setup st) _ m in
    let l : leaf < setup.size = lt_true leaf setup.size (both (nat_lt leaf setup.size) _ a.1).0 in
    still_of setup _ (calm_stays setup st _ some (take_quiet setup st seat leaf l) c.0) (take_still setup st seat leaf c.1)
still_stays setup most st (Give seat leaf) some f m s =
    let c = calm_of setup st s in
    let a = both (nat_lt leaf setup.size) _ m in
    let r : GiveRests setup st leaf (given setup st leaf (st.pages leaf)) = standing_rests setup most st seat leaf f (lt_true leaf setup.size a.0) a.1 c.1 in
    still_of setup _ (calm_stays setup st _ some r.quiet c.0) (give_still setup st _ leaf r c.1)
still_stays setup most st (Net seat) some f m s =
    let c = calm_of setup st s in
    let r : NetRests setup st (round setup st) = calm_net setup most st some f c.0 in
    still_of setup (round setup st) (calm_stays setup st (round setup st) some r.quiet c.0) (λ i l. (
    ap (λ (x : LeafState). is_page_still x ((round setup st).pages i)) (r.quiet.leaves i l) ∙ (ap (is_page_still (st.leaves i)) (r.pages i) ∙ (net_still_at (st.leaves i) (st.pages i) ∙ c.1 i l))))
