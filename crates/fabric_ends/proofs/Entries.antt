-- Each entry of a journal rests, or it uses something up.
use Rattle.std.proofs.Common.{◌≡◌, ℕ, ◌+◌, ◌/◌, ◌<◌, ◌≤◌, ◌⊎◌, not, Bool, true, false, cond, List, [], ◌∷◌, length, refl, ap, sym, ◌∙◌, arith, Option, Some, None, subst, inl, inr}
use Rattle.std.specs.Prelude.{if◌then◌else◌, is_none}
use Rattle.std.specs.List.{count_by}
use Rattle.net_switch.specs.declared.packet.Packet.{Packet}
use Rattle.leaf_port.specs.declared.tables.ConfigEntry.{ConfigEntry}
use Rattle.leaf_port.specs.Leaf.{can_write, next_word, wrote, took}
use Rattle.net_tree.specs.Links.{sum_to}
use Rattle.pld_base.specs.declared.event.Event.TheVariants.{Read, Write}
use Rattle.pld_base.specs.Channels.{OperatorNode}
use Rattle.pld_image.specs.Cores.{Core, after_read, after_write}
use Rattle.pld_image.specs.declared.page.TurnEnd.{TurnEnd}
use Rattle.pld_image.specs.declared.page.TurnEnd.TheVariants.{AtRead, AtWrite, Ended, Limit}
use Rattle.fabric_run.specs.Turns.{Turned, turn}
use Rattle.fabric_run.specs.World.{Setup, State, PageState, placed, happened, hosted, is_configured, taken_in, first_of_list, arrived, offer_of, entries_after, after_net, moved, round, returned, read_given, write_given, given_at, given, out_to, ready}
use Rattle.fabric_run.specs.Replay.{has_ended, is_blocked, is_page_still, is_served}
use Rattle.fabric_keeps.specs.Measure.{load, leaf_load, owed, page_used}
use Rattle.channel_account.specs.Network.{SamePackets}
use Rattle.net_switch.specs.Switch.{weighs}
use Rattle.fabric_keeps.specs.Facts.{Carries, is_light}
use Rattle.fabric_keeps.proofs.Base.{sum_same, sum_placed}
use Rattle.fabric_keeps.proofs.LeafRound.{wrote_load, took_load, entry_cost, LeafRests}
use Rattle.fabric_keeps.proofs.Turns.{limit_steps}
use Rattle.fabric_keeps.proofs.Steps.{Gains, NoLoss, after_gain, before_gain, gain_no_loss, happened_gains, HostRests, host_step, HostKeeps, ready_keeps, AllRest, moved_step, pages_used}

-- an entry that uses nothing up: leaves, entries, packets and events stay
pub record Quiet {S : Type 0} (setup : Setup S) (st st' : State S) : Type 0 where
  pub leaves : (i : ℕ) → i < setup.size → st'.leaves i ≡ st.leaves i
  pub entries : st'.entries ≡ st.entries
  pub packets : SamePackets (setup.net.under st'.carrier) (setup.net.under st.carrier)
  pub history : st'.history ≡ st.history
  pub lossless : NoLoss setup st st'

-- a page that was given since the last Net has come to rest
abbrev pub Covered : {S : Type 0} → Setup S → State S → Type 0
Covered setup st = (i : ℕ) → i < setup.size → is_served (st.pages i) ≡ true → is_page_still (st.leaves i) (st.pages i) ≡ true

-- one page in place of another
page_step : {S : Type 0} (setup : Setup S) (st : State S) (i : ℕ) (p q : PageState) → i < setup.size → st.pages i ≡ Some p → page_used (Some p) ≤ page_used (Some q)
    → NoLoss setup st (record st { pages = placed st.pages i (Some q) })
page_step setup st i p q l e h =
    let s : sum_to setup.size (λ j. page_used (placed st.pages i (Some q) j)) + page_used (st.pages i) ≡ sum_to setup.size (λ j. page_used (st.pages j)) + page_used (Some q) = sum_placed setup.size page_used st.pages i (Some q) l in
    let f : page_used (st.pages i) ≡ page_used (Some p) = ap page_used e in
    omega arith

page_gain : {S : Type 0} (setup : Setup S) (st : State S) (i : ℕ) (p q : PageState) → i < setup.size → st.pages i ≡ Some p → page_used (Some p) + 1 ≤ page_used (Some q)
    → Gains setup st (record st { pages = placed st.pages i (Some q) })
page_gain setup st i p q l e h =
    let s : sum_to setup.size (λ j. page_used (placed st.pages i (Some q) j)) + page_used (st.pages i) ≡ sum_to setup.size (λ j. page_used (st.pages j)) + page_used (Some q) = sum_placed setup.size page_used st.pages i (Some q) l in
    let f : page_used (st.pages i) ≡ page_used (Some p) = ap page_used e in
    omega arith

-- a page's step only: the rest stays
page_quiet : {S : Type 0} (setup : Setup S) (st : State S) (pages : ℕ → Option PageState) → NoLoss setup st (record st { pages = pages }) → Quiet setup st (record st { pages = pages })
page_quiet setup st pages n = record { leaves = λ i l. refl; entries = refl; packets = λ f. refl; history = refl; lossless = n }

-- after a Give that uses nothing up the page is still
pub record GiveRests {S : Type 0} (setup : Setup S) (st : State S) (i : ℕ) (st' : State S) : Type 0 where
  pub quiet : Quiet setup st st'
  pub page : PageState
  pub leaves : st'.leaves ≡ st.leaves
  pub pages : st'.pages ≡ placed st.pages i (Some page)
  pub blocked : is_blocked (st.leaves i) page.end ≡ true
  pub rounds : st'.rounds ≡ st.rounds
  pub carrier : st'.carrier ≡ st.carrier

steps_more : (a b : ℕ) → a / 256 ≤ (a + b) / 256
steps_more a b = omega arith

open_used : (p : PageState) → has_ended p.end ≡ false → page_used (Some p) ≡ p.steps / 256
open_used p h =
    let z : (let n : ℕ = cond (has_ended p.end) 1 0 in n ≡ 0) = rw h refl in
    omega arith

given_used : (p : PageState) (t : Turned) (c : Core) (end : Option TurnEnd) → has_ended p.end ≡ false → page_used (Some p) ≤ page_used (returned p t c end)
given_used p t c end h = omega (arith, open_used p h, steps_more p.steps t.steps)

pub read_rests : {S : Type 0} (setup : Setup S) (st : State S) (i : ℕ) (p : PageState) (t : Turned) (j : ℕ) → i < setup.size → st.pages i ≡ Some p → has_ended p.end ≡ false → next_word (st.leaves i) j ≡ None
    → GiveRests setup st i (read_given setup st i p t j None)
read_rests setup st i p t j l e h o = record {
  quiet = page_quiet setup st _ (page_step setup st i p _ l e (given_used p t t.core (Some (AtRead (record { 0 = j }))) h));
  page = _;
  leaves = refl;
  pages = refl;
  blocked = ap is_none o;
  rounds = refl;
  carrier = refl;
}

pub write_rests : {S : Type 0} (setup : Setup S) (st : State S) (i : ℕ) (p : PageState) (t : Turned) (k w : ℕ) → i < setup.size → st.pages i ≡ Some p → has_ended p.end ≡ false → can_write (st.leaves i) k ≡ false
    → GiveRests setup st i (write_given setup st i p t k w false)
write_rests setup st i p t k w l e h o = record {
  quiet = page_quiet setup st _ (page_step setup st i p _ l e (given_used p t t.core (Some (AtWrite (record { 0 = k }) w)) h));
  page = _;
  leaves = refl;
  pages = refl;
  blocked = ap not o;
  rounds = refl;
  carrier = refl;
}

read_step : {S : Type 0} (setup : Setup S) (st : State S) (i : ℕ) (p : PageState) (t : Turned) (j : ℕ) (o : Option ℕ) → i < setup.size → st.pages i ≡ Some p → has_ended p.end ≡ false → next_word (st.leaves i) j ≡ o
    → GiveRests setup st i (read_given setup st i p t j o) ⊎ Gains setup st (read_given setup st i p t j o)
read_step setup st i p t j None l e h o = inl (read_rests setup st i p t j l e h o)
read_step setup st i p t j (Some w) l e h o =
    let q : Option PageState = returned p t (after_read t.core w) None in
    let mid : State _ = record st { pages = placed st.pages i q } in
    inr (before_gain setup st mid (happened mid i (took (st.leaves i) j) (OperatorNode (setup.number i)) (Read (record { 0 = j }) w))
    (page_step setup st i p _ l e (given_used p t (after_read t.core w) None h))
    (happened_gains setup mid i (took (st.leaves i) j) (OperatorNode (setup.number i)) (Read (record { 0 = j }) w) l (took_load (st.leaves i) j)))

write_step : {S : Type 0} (setup : Setup S) (st : State S) (i : ℕ) (p : PageState) (t : Turned) (k w : ℕ) (b : Bool) → i < setup.size → st.pages i ≡ Some p → has_ended p.end ≡ false → can_write (st.leaves i) k ≡ b
    → GiveRests setup st i (write_given setup st i p t k w b) ⊎ Gains setup st (write_given setup st i p t k w b)
write_step setup st i p t k w false l e h o = inl (write_rests setup st i p t k w l e h o)
write_step setup st i p t k w true l e h o =
    let q : Option PageState = returned p t (after_write t.core) None in
    let mid : State _ = record st { pages = placed st.pages i q } in
    inr (before_gain setup st mid (happened mid i (wrote (st.leaves i) k w) (OperatorNode (setup.number i)) (Write (record { 0 = k }) w))
    (page_step setup st i p _ l e (given_used p t (after_write t.core) None h))
    (happened_gains setup mid i (wrote (st.leaves i) k w) (OperatorNode (setup.number i)) (Write (record { 0 = k }) w) l (omega (arith, wrote_load (st.leaves i) k w))))

give_at : {S : Type 0} (setup : Setup S) (st : State S) (i : ℕ) (p : PageState) (t : Turned) (end : TurnEnd) → i < setup.size → st.pages i ≡ Some p → has_ended p.end ≡ false → (end ≡ Limit → t.steps ≡ 256)
    → GiveRests setup st i (given_at setup st i p t end) ⊎ Gains setup st (given_at setup st i p t end)
give_at setup st i p t (AtRead j) l e h lim = read_step setup st i p t j.0 (next_word (st.leaves i) j.0) l e h refl
give_at setup st i p t (AtWrite k w) l e h lim = write_step setup st i p t k.0 w (can_write (st.leaves i) k.0) l e h refl
give_at setup st i p t Ended l e h lim =
    inr (page_gain setup st i p _ l e (omega (arith, open_used p h, steps_more p.steps t.steps)))
give_at setup st i p t Limit l e h lim =
    let full : t.steps ≡ 256 = lim refl in
    inr (page_gain setup st i p _ l e (omega (arith, open_used p h)))

pub give_step : {S : Type 0} (setup : Setup S) (st : State S) (i : ℕ) (p : PageState) → i < setup.size → st.pages i ≡ Some p → has_ended p.end ≡ false
    → GiveRests setup st i (given setup st i (st.pages i)) ⊎ Gains setup st (given setup st i (st.pages i))
give_step setup st i p l e h =
    subst (λ (o : Option PageState). GiveRests setup st i (given setup st i o) ⊎ Gains setup st (given setup st i o)) (sym e)
    (give_at setup st i p (turn p.core) (turn p.core).end l e h (limit_steps p.core))

-- a Net that uses nothing up
pub record NetRests {S : Type 0} (setup : Setup S) (st st' : State S) : Type 0 where
  pub quiet : Quiet setup st st'
  pub each : AllRest setup st
  pub hosts : is_configured setup st ≡ true → HostRests setup st
  pub pages : (i : ℕ) → st'.pages i ≡ after_net (st.pages i)

no_entries_same : {S : Type 0} (setup : Setup S) (st : State S) (o : Option Packet) → setup.net.arrival st.carrier 0 ≡ o → LeafRests (st.leaves 0) o (first_of_list st.entries) st.rounds
    → (st.leaves 0).back ≡ None → entries_after (arrived setup st 0).back st.entries ≡ st.entries
no_entries_same setup st o e r b = same_at (arrived setup st 0).back st.entries (ap (λ (x : Option Packet). entry_cost (first_of_list st.entries) (taken_in (st.leaves 0) x).back) e ∙ r.no_cost)
  where
    same_at : (back : Option Packet) (entries : List ConfigEntry) → entry_cost (first_of_list entries) back ≡ 0 → entries_after back entries ≡ entries
    same_at None [] h = refl
    same_at None (x ∷ xs) h = absurd (omega arith)
    same_at (Some p) entries h = refl

-- Parts 2 to 4 at rest
pub moved_rests : {S : Type 0} (setup : Setup S) (st : State S) → 0 < setup.size → ((i : ℕ) → i < setup.size → (st.leaves i).back ≡ None) → Carries setup st → AllRest setup st → Quiet setup st (moved setup st)
moved_rests setup st some back carries r =
    let leaves : (i : ℕ) → i < setup.size → (moved setup st).leaves i ≡ st.leaves i = λ i l. (r i l).same in
    let entries : (moved setup st).entries ≡ st.entries = no_entries_same setup st (setup.net.arrival st.carrier 0) refl (r 0 some) (back 0 some) in
    let packets : SamePackets (setup.net.under (moved setup st).carrier) (setup.net.under st.carrier) =
    λ f. (let same : sum_to setup.size (λ i. weighs f (offer_of setup st i).1) ≡ sum_to setup.size (λ i. weighs f (setup.net.arrival st.carrier i)) = sum_same setup.size (λ i. weighs f (offer_of setup st i).1) (λ i. weighs f (setup.net.arrival st.carrier i)) (λ i l. ap (weighs f) (r i l).gives_back) in omega (arith, carries.came f, carries.goes f)) in
    let loads : sum_to setup.size (λ i. leaf_load ((moved setup st).leaves i)) ≡ sum_to setup.size (λ i. leaf_load (st.leaves i)) = sum_same setup.size (λ i. leaf_load ((moved setup st).leaves i)) (λ i. leaf_load (st.leaves i)) (λ i l. ap leaf_load (leaves i l)) in
    let len : length (moved setup st).entries ≡ length st.entries = ap length entries in
    let u : sum_to setup.size (λ i. page_used (after_net (st.pages i))) ≡ sum_to setup.size (λ i. page_used (st.pages i)) = pages_used setup st.pages in
    let loose : NoLoss setup st (moved setup st) = omega (arith, packets load) in
    record { leaves = leaves; entries = entries; packets = packets; history = refl; lossless = loose }

moved_gain : {S : Type 0} (setup : Setup S) (st : State S) → owed setup (moved setup st) + 1 ≤ owed setup st → Gains setup st (moved setup st)
moved_gain setup st h =
    let u : sum_to setup.size (λ i. page_used (after_net (st.pages i))) ≡ sum_to setup.size (λ i. page_used (st.pages i)) = pages_used setup st.pages in
    omega arith

-- the host's part at rest, or not
ready_at : {S : Type 0} (setup : Setup S) (st : State S) (b : Bool) → 0 < setup.size → is_configured setup st ≡ b
    → (((if b then hosted setup st else st) ≡ st) × (is_configured setup st ≡ true → HostRests setup st)) ⊎ Gains setup st (if b then hosted setup st else st)
ready_at setup st true l e =
    elim (host_step setup st l) [
      | inl r ↦ inl (r.0, λ _. r.1)
      | inr g ↦ inr g
    ]
ready_at setup st false l e = inl (refl, λ h. absurd (let x : false ≡ true = sym e ∙ h in cc))

pub net_step : {S : Type 0} (setup : Setup S) (st : State S) → 0 < setup.size → ((i : ℕ) → i < setup.size → (st.leaves i).back ≡ None) → count_by is_light (setup.net.under st.carrier) ≡ 0 → Carries setup (ready setup st)
    → NetRests setup st (round setup st) ⊎ Gains setup st (round setup st)
net_step {S = S} setup st some back heavy carries =
    let x : State S = ready setup st in
    let k : HostKeeps setup st x = ready_keeps setup st in
    let back' : (i : ℕ) → i < setup.size → (x.leaves i).back ≡ None = λ i l. k.back i ∙ back i l in
    let heavy' : count_by is_light (setup.net.under x.carrier) ≡ 0 = ap (λ (c : S). count_by is_light (setup.net.under c)) k.carrier ∙ heavy in
    elim (ready_at setup st (is_configured setup st) some refl) [
      | inl r ↦ elim (moved_step setup x some back' heavy' carries) [
        | inl a ↦ inl (record {
          quiet = subst (λ (y : State S). Quiet setup y (moved setup x)) r.0 (moved_rests setup x some back' carries a);
          each = subst (AllRest setup) r.0 a;
          hosts = r.1;
          pages = λ i. ap after_net (ap (λ (f : ℕ → Option PageState). f i) k.pages);
        })
        | inr g ↦ inr (subst (λ (y : State S). Gains setup y (moved setup x)) r.0 (moved_gain setup x g))
      ]
      | inr g ↦ elim (moved_step setup x some back' heavy' carries) [
        | inl a ↦ inr (after_gain setup st x (moved setup x) g (moved_rests setup x some back' carries a).lossless)
        | inr h ↦ inr (after_gain setup st x (moved setup x) g (gain_no_loss setup x (moved setup x) (moved_gain setup x h)))
      ]
    ]

-- a Take
pub take_quiet : {S : Type 0} (setup : Setup S) (st : State S) (seat i : ℕ) → i < setup.size → Quiet setup st (record st { pages = placed st.pages i (out_to seat (st.pages i)) })
take_quiet setup st seat i l =
    let s : sum_to setup.size (λ j. page_used (placed st.pages i (out_to seat (st.pages i)) j)) + page_used (st.pages i) ≡ sum_to setup.size (λ j. page_used (st.pages j)) + page_used (out_to seat (st.pages i)) = sum_placed setup.size page_used st.pages i (out_to seat (st.pages i)) l in
    let e : page_used (out_to seat (st.pages i)) ≡ page_used (st.pages i) = out_used seat (st.pages i) in
    page_quiet setup st _ (omega arith)
  where
    out_used : (seat : ℕ) (o : Option PageState) → page_used (out_to seat o) ≡ page_used o
    out_used seat None = refl
    out_used seat (Some p) = refl
