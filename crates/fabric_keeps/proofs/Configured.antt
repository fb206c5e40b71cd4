-- Configuration: what holds before it is over and after it; a count that tells it; and it stays over.
use Rattle.std.proofs.Common.{◌≡◌, ℕ, zero, suc, ◌+◌, ◌<◌, ◌≤◌, ◌⊎◌, ◌&&◌, not, Bool, true, false, cond, List, [], ◌∷◌, length, refl, ap, sym, ◌∙◌, arith, Option, Some, None, inl}
use Rattle.std.specs.Prelude.{if◌then◌else◌, ◌==◌}
use Rattle.std.specs.List.{count_by}
use Rattle.std.proofs.lemmas.List.Sums.{sum_by-cons}
use Rattle.pld_base.specs.declared.event.PortNo.{PortNo}
use Rattle.net_switch.specs.declared.packet.Row.{Row}
use Rattle.net_switch.specs.declared.packet.Packet.{Packet}
use Rattle.net_switch.specs.declared.packet.Body.{Body}
use Rattle.net_switch.specs.declared.packet.Body.TheVariants.{Data, Credit, Config}
use Rattle.net_switch.specs.Switch.{weighs}
use Rattle.net_tree.specs.Links.{sum_to}
use Rattle.leaf_port.specs.declared.ports.Waiting.{Waiting}
use Rattle.leaf_port.specs.declared.tables.ConfigEntry.{ConfigEntry}
use Rattle.leaf_port.specs.Leaf.{LeafState, row_of, in_port, delivered, owed_from, to_other_end, offer_word, offer_own, offer_new, offer_first, offered}
use Rattle.fabric_run.specs.World.{Setup, State, Rows, core_at, is_config, is_config_body, unaccepted, is_configured, ready, taken_in, first_of_list, entry_for, arrived, offer_of, entries_after, moved, round}
use Rattle.fabric_run.specs.Replay.{may, after}
use Rattle.fabric_run.specs.declared.entry.Entry.{Entry}
use Rattle.fabric_keeps.specs.Facts.{Carries}
use Rattle.fabric_keeps.specs.Links.{is_body_for, is_stray, IsSound, IsRunning}
use Rattle.fabric_keeps.specs.Configuring.{body_is_right, is_wrong, pending, takes, accepted_in}
use Rattle.fabric_keeps.specs.Whole.{IsWorld, Configuring, Running, IsWhole}
use Rattle.fabric_keeps.proofs.Base.{same_eq, sum_add, sum_same}
use Rattle.fabric_keeps.proofs.LeafRound.{delivered_back}
use Rattle.fabric_keeps.proofs.Steps.{HostKeeps, ready_keeps}
use Rattle.fabric_keeps.proofs.WorldKeeps.{entry_world}
use Rattle.fabric_keeps.proofs.Whole.{no_host_page, ports_fit}

config_of : Packet → ℕ
config_of p = cond (is_config p) 1 0

-- a word or a credit is no entry
other_end_config : (s : LeafState) (r : ℕ) (body : PortNo → Body) (row : Option Row) → ((p : PortNo) → is_config_body (body p) ≡ false) → weighs config_of (to_other_end s r body row) ≡ 0
unfolding config_of
other_end_config s r body None h = refl
other_end_config s r body (Some row) h = let z : is_config_body (body row.port) ≡ false = h row.port in rw z refl

word_config : (s : LeafState) (r : ℕ) (box : List Waiting) → weighs config_of (offer_word s r box).1 ≡ 0
word_config s r [] = refl
word_config s r (w ∷ ws) = other_end_config s r (λ j. Data j w.number w.word) (row_of s w.port) (λ p. refl)

own_config : (s : LeafState) (r : ℕ) (o : Option ℕ) → weighs config_of (offer_own s r o).1 ≡ 0
own_config s r None = word_config s r s.box
own_config s r (Some j) = other_end_config s r (λ k. Credit k (in_port s j).freed) (row_of s (8 + j)) (λ p. refl)

abbrev used_entry : Option ConfigEntry → Option Packet → ℕ
used_entry None back = 0
used_entry (Some e) None = 1
used_entry (Some e) (Some p) = 0

new_config : (s : LeafState) (r : ℕ) (c : Option ConfigEntry) → weighs config_of (offer_new s r c).1 ≡ used_entry c None
unfolding config_of
new_config s r (Some e) = refl
new_config s r None = own_config s r (owed_from 0 s.ins)

own_leaf : (s : LeafState) (p : Packet) (r : ℕ) (c : Option ConfigEntry) (b : Bool) → s.back ≡ None
    → (let s1 : LeafState = if b then delivered s p.body else record s { back = Some p } in let t : ℕ = cond (b && is_config p) 1 0 in weighs config_of (offered s1 r c).1 + t ≡ config_of p + used_entry c s1.back)
unfolding config_of
own_leaf s p r c true back =
    let s1 : LeafState = delivered s p.body in
    let e : s1.back ≡ None = delivered_back s p.body ∙ back in
    let n : weighs config_of (offered s1 r c).1 ≡ weighs config_of (offer_new s1 r c).1 = ap (λ (x : Option Packet). weighs config_of (offer_first s1 r c x).1) e in
    let u : used_entry c s1.back ≡ used_entry c None = ap (used_entry c) e in
    omega (arith, new_config s1 r c)
own_leaf s p r None false back = omega arith
own_leaf s p r (Some e) false back = omega arith

leaf_config : (s : LeafState) (o : Option Packet) (r : ℕ) (c : Option ConfigEntry) → s.back ≡ None → weighs config_of (offered (taken_in s o) r c).1 + takes s o ≡ weighs config_of o + used_entry c (taken_in s o).back
leaf_config s None r c back =
    let n : weighs config_of (offered s r c).1 ≡ weighs config_of (offer_new s r c).1 = ap (λ (x : Option Packet). weighs config_of (offer_first s r c x).1) back in
    let u : used_entry c s.back ≡ used_entry c None = ap (used_entry c) back in
    omega (arith, new_config s r c)
leaf_config s (Some p) r c back = own_leaf s p r c (p.to.0 == s.own) back

entries_left : (back : Option Packet) (es : List ConfigEntry) → length (entries_after back es) + used_entry (first_of_list es) back ≡ length es
entries_left None [] = refl
entries_left None (e ∷ es) = omega arith
entries_left (Some p) [] = refl
entries_left (Some p) (e ∷ es) = omega arith

sum_first : (n : ℕ) (g : ℕ → ℕ) → 0 < n → ((i : ℕ) → g (suc i) ≡ 0) → sum_to n g ≡ g 0
sum_first zero g l h = absurd (omega arith)
sum_first (suc zero) g l h = omega arith
sum_first (suc (suc n)) g l h = omega (arith, sum_first (suc n) g (omega arith) h, h n)

moved_count : {S : Type 0} (setup : Setup S) (st : State S) → 0 < setup.size → ((i : ℕ) → i < setup.size → (st.leaves i).back ≡ None) → Carries setup st → unaccepted setup (moved setup st) + accepted_in setup st ≡ unaccepted setup st
unfolding config_of
moved_count setup st some back c =
    let o : ℕ → Option Packet = λ i. setup.net.arrival st.carrier i in
    let u : ℕ → ℕ = λ i. used_entry (entry_for i st.entries) (arrived setup st i).back in
    let t : ℕ → ℕ = λ i. takes (st.leaves i) (o i) in
    let each : sum_to setup.size (λ i. weighs config_of (offer_of setup st i).1 + t i) ≡ sum_to setup.size (λ i. weighs config_of (o i) + u i) =
    sum_same setup.size (λ i. weighs config_of (offer_of setup st i).1 + t i) (λ i. weighs config_of (o i) + u i) (λ i l. leaf_config (st.leaves i) (o i) st.rounds (entry_for i st.entries) (back i l)) in
    omega (
      arith,
      each,
      sum_add setup.size (λ i. weighs config_of (offer_of setup st i).1) t,
      sum_add setup.size (λ i. weighs config_of (o i)) u,
      sum_first setup.size u some (λ i. refl),
      entries_left (arrived setup st 0).back st.entries,
      c.came config_of,
      c.goes config_of,
    )

-- THE COUNT of a round: as many entries fewer as leaves accept
pub round_count : {S : Type 0} (setup : Setup S) (st : State S) → IsSound setup → IsWhole setup st → Carries setup (ready setup st) → unaccepted setup (round setup st) + accepted_in setup (ready setup st) ≡ unaccepted setup st
round_count {S = S} setup st sound w c =
    let k : HostKeeps setup st (ready setup st) = ready_keeps setup st in
    let n : unaccepted setup (ready setup st) ≡ unaccepted setup st = ap (λ (es : List ConfigEntry). length es + count_by is_config (setup.net.under (ready setup st).carrier)) k.entries ∙ ap (λ (x : S). length st.entries + count_by is_config (setup.net.under x)) k.carrier in
    omega (arith, moved_count setup (ready setup st) sound.some (λ i l. k.back i ∙ w.steady.back i l) c)

-- Once the new rows stand, configuration is over.

no_config : (tables : Rows) (m : ℕ) (body : Body) → (let a : ℕ = cond (is_config_body body) 1 0 in let b : ℕ = cond (not (is_body_for tables m body)) 1 0 in a ≤ b)
no_config tables m (Data j n w) = omega arith
no_config tables m (Credit k n) = omega arith
no_config tables m (Config s row) = omega arith

few_configs : (tables : Rows) (ps : List Packet) → count_by is_config ps ≤ count_by (is_stray tables) ps
few_configs tables [] = omega arith
few_configs tables (p ∷ ps) =
    omega (arith, no_config tables p.to.0 p.body, few_configs tables ps, sum_by-cons (λ (q : Packet). cond (is_config q) 1 0) p ps, sum_by-cons (λ (q : Packet). cond (is_stray tables q) 1 0) p ps)

pub running_configured : {S : Type 0} (setup : Setup S) (st : State S) → IsRunning setup st → is_configured setup st ≡ true
running_configured setup st h =
    same_eq (unaccepted setup st) 0 (omega (arith, ap (λ (es : List ConfigEntry). length es) h.no_entries, few_configs setup.tables (setup.net.under st.carrier), h.for_ends))

pub running_of : {S : Type 0} (setup : Setup S) (st : State S) → IsSound setup → IsWorld setup st → is_configured setup st ≡ true → IsRunning setup st
running_of setup st sound (Configuring busy h) over = absurd (let x : false ≡ true = sym busy ∙ over in cc)
running_of setup st sound (Running h) over = h

pub slots_stand : {S : Type 0} (setup : Setup S) (st : State S) → IsWorld setup st → (i slot : ℕ) → i < setup.size → slot < 16 → (row_of (st.leaves i) slot ≡ setup.tables i slot) ⊎ (0 < pending setup st i slot)
slots_stand setup st (Configuring busy h) i slot l m = h.slots i slot l m
slots_stand setup st (Running h) i slot l m = inl ((h.leaf i l).rows slot)

right_config : (tables : Rows) (size m : ℕ) (body : Body) → (let a : ℕ = cond (not (is_config_body body)) 1 0 in let b : ℕ = cond (not (body_is_right tables size m body)) 1 0 in a ≤ b)
right_config tables size m (Data j n w) = omega arith
right_config tables size m (Credit k n) = omega arith
right_config tables size m (Config s row) = omega arith

abbrev is_other : Packet → Bool
is_other p = not (is_config p)

few_others : (tables : Rows) (size : ℕ) (ps : List Packet) → count_by is_other ps ≤ count_by (is_wrong tables size) ps
few_others tables size [] = omega arith
few_others tables size (p ∷ ps) =
    omega (arith, right_config tables size p.to.0 p.body, few_others tables size ps, sum_by-cons (λ (q : Packet). cond (is_other q) 1 0) p ps, sum_by-cons (λ (q : Packet). cond (is_wrong tables size q) 1 0) p ps)

pub nothing_before : {S : Type 0} (setup : Setup S) (st : State S) → IsWorld setup st → is_configured setup st ≡ false → (st.history ≡ []) × (count_by (λ p. not (is_config p)) (setup.net.under st.carrier) ≡ 0)
nothing_before setup st (Configuring busy h) no_ = (h.history, omega (arith, few_others setup.tables setup.size (setup.net.under st.carrier), h.under))
nothing_before setup st (Running h) no_ = absurd (let x : true ≡ false = sym (running_configured setup st h) ∙ no_ in cc)

-- it stays over
pub stays_configured : {S : Type 0} (setup : Setup S) (st : State S) (e : Entry) → IsSound setup → Carries setup (ready setup st) → may setup st e ≡ true → IsWhole setup st → is_configured setup st ≡ true → is_configured setup (after setup st e) ≡ true
stays_configured setup st e sound c m w over =
    let h : IsRunning setup st = running_of setup st sound w.world over in
    running_configured setup (after setup st e)
    (entry_world setup st e sound m (no_host_page (core_at setup 0) (st.pages 0) _ sound.host (w.traced.pages 0)) w.steady.back c (ports_fit setup st sound w.traced) h)
