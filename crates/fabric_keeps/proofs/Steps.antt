-- Each entry rests, or it uses something up.
use Rattle.std.proofs.Common.{◌≡◌, ℕ, zero, suc, ◌+◌, ◌*◌, ◌<◌, ◌≤◌, ◌⊎◌, ◌&&◌, not, Bool, true, false, cond, List, [], ◌∷◌, length, refl, ap, sym, ◌∙◌, arith, Option, Some, None, subst, inl, inr}
use Rattle.std.specs.Prelude.{if◌then◌else◌, is_some}
use Rattle.std.specs.List.{sum_by, count_by}
use Rattle.net_switch.specs.declared.packet.Packet.{Packet}
use Rattle.leaf_port.specs.declared.tables.ConfigEntry.{ConfigEntry}
use Rattle.leaf_port.specs.Leaf.{LeafState, can_write, next_word, wrote, took, offered}
use Rattle.net_tree.specs.Links.{sum_to}
use Rattle.pld_base.specs.declared.event.Event.{Event}
use Rattle.pld_base.specs.declared.event.Event.TheVariants.{Read, Write}
use Rattle.pld_base.specs.Channels.{Node, InputNode, OutputNode}
use Rattle.fabric_run.specs.World.{Setup, State, PageState, placed, each_to, happened, next_feed, sent_by, send, received_by, receive, hosted, is_configured, taken_in, first_of_list, entry_for, arrived, offer_of, entries_after, after_net, moved, ready}
use Rattle.fabric_run.specs.Replay.{can_send, can_receive}
use Rattle.fabric_keeps.specs.Measure.{load, leaf_load, owed, page_used, used}
use Rattle.net_switch.specs.Switch.{weighs}
use Rattle.fabric_keeps.specs.Facts.{Carries, is_light}
use Rattle.fabric_keeps.proofs.Base.{sum_same, sum_add, sum_zero, sum_placed, either_all, placed_other, last_or}
use Rattle.fabric_keeps.proofs.LeafRound.{wrote_load, took_load, entry_cost, LeafRests, leaf_round}

-- something was used up; nothing was lost
abbrev pub Gains : {S : Type 0} → Setup S → State S → State S → Type 0
Gains setup st st' = used setup st + owed setup st' + 1 ≤ used setup st' + owed setup st

abbrev pub NoLoss : {S : Type 0} → Setup S → State S → State S → Type 0
NoLoss setup st st' = used setup st + owed setup st' ≤ used setup st' + owed setup st

pub after_gain : {S : Type 0} (setup : Setup S) (a b c : State S) → Gains setup a b → NoLoss setup b c → Gains setup a c
after_gain setup a b c g n = omega arith

pub before_gain : {S : Type 0} (setup : Setup S) (a b c : State S) → NoLoss setup a b → Gains setup b c → Gains setup a c
before_gain setup a b c n g = omega arith

pub no_loss : {S : Type 0} (setup : Setup S) (a b c : State S) → NoLoss setup a b → NoLoss setup b c → NoLoss setup a c
no_loss setup a b c n g = omega arith

pub gain_no_loss : {S : Type 0} (setup : Setup S) (a b : State S) → Gains setup a b → NoLoss setup a b
gain_no_loss setup a b g = omega arith

-- an event
pub happened_gains : {S : Type 0} (setup : Setup S) (st : State S) (i : ℕ) (s : LeafState) (node : Node) (event : Event) → i < setup.size → leaf_load s ≤ leaf_load (st.leaves i) + 2
    → Gains setup st (happened st i s node event)
happened_gains setup st i s node event l h =
    let e : sum_to setup.size (λ j. leaf_load (placed st.leaves i s j)) + leaf_load (st.leaves i) ≡ sum_to setup.size (λ j. leaf_load (st.leaves j)) + leaf_load s = sum_placed setup.size leaf_load st.leaves i s l in
    omega arith

-- The host's part.

pub each_gains : {S : Type 0} (setup : Setup S) (n : ℕ) (go : ℕ → State S → State S) (B : ℕ → State S → Type 0) (st : State S)
    → ((k : ℕ) (x : State S) → ((go k x ≡ x) × B k x) ⊎ Gains setup x (go k x))
    → ((each_to n go st ≡ st) × ((k : ℕ) → k < n → B k st)) ⊎ Gains setup st (each_to n go st)
each_gains {S = S} setup zero go B st h = inl (refl, λ k l. absurd (omega arith))
each_gains {S = S} setup (suc n) go B st h =
    elim (each_gains setup n go B st h) [
      | inl r ↦ elim (h n (each_to n go st)) [
        | inl q ↦ inl (
          q.0 ∙ r.0,
          λ k l. elim (last_or n k l) [
            | inl s ↦ subst (λ (j : ℕ). B j st) (sym s) (subst (B n) r.0 q.1)
            | inr m ↦ r.1 k m
          ],
        )
        | inr g ↦ inr (subst (λ (x : State S). Gains setup x (go n (each_to n go st))) r.0 g)
      ]
      | inr g ↦ elim (h n (each_to n go st)) [
        | inl q ↦ inr (subst (Gains setup st) (sym q.0) g)
        | inr q ↦ inr (after_gain setup st (each_to n go st) (go n (each_to n go st)) g (gain_no_loss setup (each_to n go st) (go n (each_to n go st)) q))
      ]
    ]

abbrev pub CannotSend : {S : Type 0} → Setup S → ℕ → State S → Type 0
CannotSend setup k st = not (can_send setup st k) ≡ true

abbrev pub CannotReceive : {S : Type 0} → ℕ → State S → Type 0
CannotReceive j st = not (can_receive st j) ≡ true

send_at : {S : Type 0} (setup : Setup S) (k : ℕ) (st : State S) (o : Option ℕ) (b : Bool) → 0 < setup.size
    → ((sent_by st k o b ≡ st) × (not (is_some o && b) ≡ true)) ⊎ Gains setup st (sent_by st k o b)
send_at setup k st None b l = inl (refl, refl)
send_at setup k st (Some w) false l = inl (refl, refl)
send_at setup k st (Some w) true l = inr (happened_gains setup st 0 (wrote (st.leaves 0) k w) (InputNode k) (Write (record { 0 = 0 }) w) l (omega (arith, wrote_load (st.leaves 0) k w)))

receive_at : {S : Type 0} (setup : Setup S) (j : ℕ) (st : State S) (o : Option ℕ) → 0 < setup.size
    → ((received_by st j o ≡ st) × (not (is_some o) ≡ true)) ⊎ Gains setup st (received_by st j o)
receive_at setup j st None l = inl (refl, refl)
receive_at setup j st (Some w) l = inr (happened_gains setup st 0 (took (st.leaves 0) j) (OutputNode j) (Read (record { 0 = 0 }) w) l (took_load (st.leaves 0) j))

-- the host can do nothing
pub record HostRests {S : Type 0} (setup : Setup S) (st : State S) : Type 0 where
  pub inputs : (k : ℕ) → k < setup.inputs → CannotSend setup k st
  pub outputs : (j : ℕ) → j < setup.outputs → CannotReceive j st

pub host_step : {S : Type 0} (setup : Setup S) (st : State S) → 0 < setup.size → ((hosted setup st ≡ st) × HostRests setup st) ⊎ Gains setup st (hosted setup st)
host_step {S = S} setup st l =
    let x : State S = each_to setup.inputs (send setup) st in
    elim (each_gains setup setup.inputs (send setup) (CannotSend setup) st (λ k y. send_at setup k y (next_feed setup y k) (can_write (y.leaves 0) k) l)) [
      | inl r ↦ elim (each_gains setup setup.outputs receive CannotReceive x (λ j y. receive_at setup j y (next_word (y.leaves 0) j) l)) [
        | inl q ↦ inl (q.0 ∙ r.0, record { inputs = r.1; outputs = λ j m. subst (CannotReceive j) r.0 (q.1 j m) })
        | inr g ↦ inr (subst (λ (y : State S). Gains setup y (hosted setup st)) r.0 g)
      ]
      | inr g ↦ elim (each_gains setup setup.outputs receive CannotReceive x (λ j y. receive_at setup j y (next_word (y.leaves 0) j) l)) [
        | inl q ↦ inr (subst (Gains setup st) (sym q.0) g)
        | inr q ↦ inr (after_gain setup st x (hosted setup st) g (gain_no_loss setup x (hosted setup st) q))
      ]
    ]

-- what the host's part leaves as it is
pub record HostKeeps {S : Type 0} (setup : Setup S) (st x : State S) : Type 0 where
  pub back : (i : ℕ) → (x.leaves i).back ≡ (st.leaves i).back
  pub carrier : x.carrier ≡ st.carrier
  pub rounds : x.rounds ≡ st.rounds
  pub pages : x.pages ≡ st.pages
  pub entries : x.entries ≡ st.entries

host_event_back : (f : ℕ → LeafState) (s : LeafState) (i : ℕ) → s.back ≡ (f 0).back → (placed f 0 s i).back ≡ (f i).back
host_event_back f s zero h = h
host_event_back f s (suc i) h = ap (λ (x : LeafState). x.back) (placed_other f 0 s (suc i) (λ e. omega arith))

event_keeps : {S : Type 0} (setup : Setup S) (st x : State S) (s : LeafState) (node : Node) (event : Event) → s.back ≡ (x.leaves 0).back → HostKeeps setup st x → HostKeeps setup st (happened x 0 s node event)
event_keeps setup st x s node event h k = record { back = λ i. host_event_back x.leaves s i h ∙ k.back i; carrier = k.carrier; rounds = k.rounds; pages = k.pages; entries = k.entries }

send_keeps : {S : Type 0} (setup : Setup S) (st x : State S) (k : ℕ) (o : Option ℕ) (b : Bool) → HostKeeps setup st x → HostKeeps setup st (sent_by x k o b)
send_keeps setup st x k None b h = h
send_keeps setup st x k (Some w) false h = h
send_keeps setup st x k (Some w) true h = event_keeps setup st x _ _ _ refl h

receive_keeps : {S : Type 0} (setup : Setup S) (st x : State S) (j : ℕ) (o : Option ℕ) → HostKeeps setup st x → HostKeeps setup st (received_by x j o)
receive_keeps setup st x j None h = h
receive_keeps setup st x j (Some w) h = event_keeps setup st x _ _ _ refl h

pub each_keeps : {S : Type 0} (P : State S → Type 0) (n : ℕ) (go : ℕ → State S → State S) (st : State S) → ((k : ℕ) (x : State S) → P x → P (go k x)) → P st → P (each_to n go st)
each_keeps P zero go st h p = p
each_keeps P (suc n) go st h p = h n (each_to n go st) (each_keeps P n go st h p)

pub host_keeps : {S : Type 0} (setup : Setup S) (st : State S) → HostKeeps setup st (hosted setup st)
host_keeps setup st =
    each_keeps (HostKeeps setup st) setup.outputs receive (each_to setup.inputs (send setup) st) (λ j x h. receive_keeps setup st x j (next_word (x.leaves 0) j) h)
    (each_keeps (HostKeeps setup st) setup.inputs (send setup) st (λ k x h. send_keeps setup st x k (next_feed setup x k) (can_write (x.leaves 0) k) h)
    (record { back = λ i. refl; carrier = refl; rounds = refl; pages = refl; entries = refl }))

ready_keeps_at : {S : Type 0} (setup : Setup S) (st : State S) (b : Bool) → HostKeeps setup st (if b then hosted setup st else st)
ready_keeps_at setup st true = host_keeps setup st
ready_keeps_at setup st false = record { back = λ i. refl; carrier = refl; rounds = refl; pages = refl; entries = refl }

pub ready_keeps : {S : Type 0} (setup : Setup S) (st : State S) → HostKeeps setup st (ready setup st)
ready_keeps setup st = ready_keeps_at setup st (is_configured setup st)

-- Parts 2 to 4.

sum_first : (n : ℕ) (g : ℕ → ℕ) → 0 < n → ((i : ℕ) → g (suc i) ≡ 0) → sum_to n g ≡ g 0
sum_first zero g l h = absurd (omega arith)
sum_first (suc zero) g l h = omega arith
sum_first (suc (suc n)) g l h = omega (arith, sum_first (suc n) g (omega arith) h, h n)

entries_cost : (back : Option Packet) (entries : List ConfigEntry) → 2 * length (entries_after back entries) + entry_cost (first_of_list entries) back ≡ 2 * length entries
entries_cost None [] = refl
entries_cost None (e ∷ es) = omega arith
entries_cost (Some p) [] = refl
entries_cost (Some p) (e ∷ es) = omega arith

light_false : (b : Bool) → (let n : ℕ = cond b 1 0 in n ≡ 0) → b ≡ false
light_false true h = absurd (omega arith)
light_false false h = refl

abbrev pub AllRest : {S : Type 0} → Setup S → State S → Type 0
AllRest setup st = (i : ℕ) → i < setup.size → LeafRests (st.leaves i) (setup.net.arrival st.carrier i) (entry_for i st.entries) st.rounds

pub pages_used : {S : Type 0} (setup : Setup S) (pages : ℕ → Option PageState) → sum_to setup.size (λ i. page_used (after_net (pages i))) ≡ sum_to setup.size (λ i. page_used (pages i))
pages_used setup pages = sum_same setup.size (λ i. page_used (after_net (pages i))) (λ i. page_used (pages i)) (λ i l. net_used (pages i))
  where
    net_used : (o : Option PageState) → page_used (after_net o) ≡ page_used o
    net_used None = refl
    net_used (Some p) = refl

pub moved_step : {S : Type 0} (setup : Setup S) (st : State S) → 0 < setup.size → ((i : ℕ) → i < setup.size → (st.leaves i).back ≡ None) → count_by is_light (setup.net.under st.carrier) ≡ 0 → Carries setup st
    → AllRest setup st ⊎ (owed setup (moved setup st) + 1 ≤ owed setup st)
moved_step setup st some back heavy carries =
    let size : ℕ = setup.size in
    let o : ℕ → Option Packet = λ i. setup.net.arrival st.carrier i in
    let a : ℕ → ℕ = λ i. leaf_load (offer_of setup st i).0 + weighs load (offer_of setup st i).1 in
    let cost : ℕ → ℕ = λ i. entry_cost (entry_for i st.entries) (arrived setup st i).back in
    let b : ℕ → ℕ = λ i. leaf_load (st.leaves i) + weighs load (o i) + cost i in
    let test : Packet → ℕ = λ (p : Packet). cond (is_light p) 1 0 in
    let none : sum_to size (λ i. weighs test (o i)) ≡ 0 = omega (arith, carries.came test, heavy) in
    let light : (i : ℕ) → i < size → (p : Packet) → o i ≡ Some p → is_light p ≡ false =
    λ i l p e. light_false (is_light p) (sym (ap (weighs test) e) ∙ sum_zero size (λ j. weighs test (o j)) none i l) in
    let came : sum_by load (setup.net.under st.carrier) ≡ sum_by load carries.kept + sum_to size (λ i. weighs load (o i)) = carries.came load in
    let goes : sum_by load (setup.net.under (moved setup st).carrier) ≡ sum_by load carries.kept + sum_to size (λ i. weighs load (offer_of setup st i).1) = carries.goes load in
    let sa : sum_to size a ≡ sum_to size (λ i. leaf_load (offer_of setup st i).0) + sum_to size (λ i. weighs load (offer_of setup st i).1) = sum_add size (λ i. leaf_load (offer_of setup st i).0) (λ i. weighs load (offer_of setup st i).1) in
    let sb : sum_to size b ≡ sum_to size (λ i. leaf_load (st.leaves i) + weighs load (o i)) + sum_to size cost = sum_add size (λ i. leaf_load (st.leaves i) + weighs load (o i)) cost in
    let sc : sum_to size (λ i. leaf_load (st.leaves i) + weighs load (o i)) ≡ sum_to size (λ i. leaf_load (st.leaves i)) + sum_to size (λ i. weighs load (o i)) = sum_add size (λ i. leaf_load (st.leaves i)) (λ i. weighs load (o i)) in
    let sd : sum_to size cost ≡ entry_cost (first_of_list st.entries) (arrived setup st 0).back = sum_first size cost some (λ i. refl) in
    let se : 2 * length (entries_after (arrived setup st 0).back st.entries) + entry_cost (first_of_list st.entries) (arrived setup st 0).back ≡ 2 * length st.entries = entries_cost (arrived setup st 0).back st.entries in
    elim (either_all size (λ i. LeafRests (st.leaves i) (o i) (entry_for i st.entries) st.rounds) a b
    (λ i l. leaf_round (st.leaves i) (o i) (entry_for i st.entries) st.rounds (back i l) (light i l))
    (λ i l r. rests_le (st.leaves i) (o i) (entry_for i st.entries) st.rounds r)) [
      | inl r ↦ inl r
      | inr s ↦ inr (omega arith)
    ]
  where
    rests_le : (s : LeafState) (o : Option Packet) (c : Option ConfigEntry) (r : ℕ) → LeafRests s o c r
        → leaf_load (offered (taken_in s o) r c).0 + weighs load (offered (taken_in s o) r c).1 ≤ leaf_load s + weighs load o + entry_cost c (taken_in s o).back
    rests_le s o c r h = omega (arith, ap leaf_load h.same, ap (weighs load) h.gives_back)
