-- From a state that isn't still, each so many rounds use something up.
use Rattle.std.proofs.Common.{◌≡◌, ℕ, zero, suc, ◌+◌, ◌*◌, ◌<◌, ◌≤◌, ◌⊎◌, not, Bool, true, false, cond, List, [], ◌∷◌, length, refl, ap, sym, ◌∙◌, arith, Option, Some, None, subst, inl, inr}
use Rattle.std.specs.Prelude.{◌||◌, nat_lt}
use Rattle.std.specs.List.{count_by}
use Rattle.std.proofs.lemmas.Bool.Decides.{nat_tests}
use Rattle.std.proofs.lemmas.List.Sums.{sum_by-cons}
use Rattle.net_switch.specs.declared.packet.Packet.{Packet}
use Rattle.std.proofs.lemmas.Bool.{cases_lt}
use Rattle.pld_image.specs.Cores.{Core}
use Rattle.fabric_run.specs.World.{Setup, State, start, start_page, is_configured, all_to, core_at, changes}
use Rattle.fabric_run.specs.Replay.{is_none_left, is_served, is_still, goes_on, may, after, run, IsLegalFrom}
use Rattle.fabric_run.specs.declared.entry.Entry.{Entry}
use Rattle.fabric_run.specs.declared.entry.Entry.TheVariants.{Take, Give, Net}
use Rattle.fabric_keeps.specs.Measure.{owed, used, page_used, enough}
use Rattle.channel_account.specs.Network.{SamePackets}
use Rattle.fabric_keeps.specs.Facts.{Facts, IsKept, is_old, is_new}
use Rattle.fabric_keeps.proofs.Base.{both, lt_true, all_below, all_zero}
use Rattle.fabric_keeps.proofs.Steps.{Gains, NoLoss, after_gain, before_gain, no_loss, gain_no_loss}
use Rattle.fabric_keeps.proofs.Counted.{given_rounds, net_rounds}
use Rattle.fabric_ends.proofs.Entries.{Quiet, Covered, GiveRests, NetRests, give_step, net_step, take_quiet}
use Rattle.fabric_ends.proofs.Stillness.{calm_stays, calm_at_net, net_covered, take_covered, give_covered, IsOut, held_out, still_stays}
use Rattle.fabric_keeps.proofs.Calm.{Calm, PagesStill, still_of, configured}

-- what an entry does that uses nothing up
abbrev pub Rests : {S : Type 0} → Setup S → State S → Entry → Type 0
Rests setup st (Take seat leaf) = Quiet setup st (after setup st (Take seat leaf))
Rests setup st (Give seat leaf) = GiveRests setup st leaf (after setup st (Give seat leaf))
Rests setup st (Net seat) = NetRests setup st (after setup st (Net seat))

quiet_of : {S : Type 0} (setup : Setup S) (st : State S) (e : Entry) → Rests setup st e → Quiet setup st (after setup st e)
quiet_of setup st (Take seat leaf) r = r
quiet_of setup st (Give seat leaf) r = r.quiet
quiet_of setup st (Net seat) r = r.quiet

pub entry_step : {S : Type 0} (setup : Setup S) (most : ℕ) (st : State S) (e : Entry) → 0 < setup.size → Facts setup most st → may setup st e ≡ true → Rests setup st e ⊎ Gains setup st (after setup st e)
entry_step setup most st (Take seat leaf) some f m =
    let a = both (goes_on setup st) _ m in
    inl (take_quiet setup st seat leaf (lt_true leaf setup.size (both (nat_lt leaf setup.size) _ a.1).0))
entry_step setup most st (Give seat leaf) some f m =
    let a = both (nat_lt leaf setup.size) _ m in
    let o : IsOut st.pages leaf = held_out setup most st seat leaf f a.1 in
    give_step setup st leaf o.page (lt_true leaf setup.size a.0) o.there o.unfinished
entry_step setup most st (Net seat) some f m = net_step setup st some f.back f.heavy f.carries

pub entry_no_loss : {S : Type 0} (setup : Setup S) (most : ℕ) (st : State S) (e : Entry) → 0 < setup.size → Facts setup most st → may setup st e ≡ true → NoLoss setup st (after setup st e)
entry_no_loss setup most st e some f m =
    elim (entry_step setup most st e some f m) [
      | inl r ↦ (quiet_of setup st e r).lossless
      | inr g ↦ gain_no_loss setup st (after setup st e) g
    ]

-- Whole runs.

pub run_keeps : {S : Type 0} (setup : Setup S) (most : ℕ) (G : State S → Type 0) (k : IsKept setup most G) (st : State S) (es : List Entry) → G st → IsLegalFrom setup st es → G (run setup st es)
run_keeps setup most G k st [] g l = g
run_keeps setup most G k st (e ∷ es) g l = run_keeps setup most G k (after setup st e) es (k.keeps st e g l.0) l.1

pub run_no_loss : {S : Type 0} (setup : Setup S) (most : ℕ) (G : State S → Type 0) (k : IsKept setup most G) (st : State S) (es : List Entry) → G st → IsLegalFrom setup st es → NoLoss setup st (run setup st es)
run_no_loss setup most G k st [] g l = omega arith
run_no_loss setup most G k st (e ∷ es) g l =
    no_loss setup st (after setup st e) (run setup st (e ∷ es)) (entry_no_loss setup most st e k.some (k.facts st g) l.0)
    (run_no_loss setup most G k (after setup st e) es (k.keeps st e g l.0) l.1)

pub still_run : {S : Type 0} (setup : Setup S) (most : ℕ) (G : State S → Type 0) (k : IsKept setup most G) (st : State S) (es : List Entry) → G st → IsLegalFrom setup st es → is_still setup st ≡ true → is_still setup (run setup st es) ≡ true
still_run setup most G k st [] g l s = s
still_run setup most G k st (e ∷ es) g l s =
    still_run setup most G k (after setup st e) es (k.keeps st e g l.0) l.1 (still_stays setup most st e k.some (k.facts st g) l.0 s)

-- where nothing is used up, the same packets are under way
pub same_or_gains : {S : Type 0} (setup : Setup S) (most : ℕ) (G : State S → Type 0) (k : IsKept setup most G) (st : State S) (es : List Entry) → G st → IsLegalFrom setup st es
    → SamePackets (setup.net.under (run setup st es).carrier) (setup.net.under st.carrier) ⊎ Gains setup st (run setup st es)
same_or_gains setup most G k st [] g l = inl (λ f. refl)
same_or_gains {S = S} setup most G k st (e ∷ es) g l =
    let mid : State S = after setup st e in
    let end : State S = run setup st (e ∷ es) in
    elim (entry_step setup most st e k.some (k.facts st g) l.0) [
      | inl r ↦ elim (same_or_gains setup most G k mid es (k.keeps st e g l.0) l.1) [
        | inl s ↦ inl (λ f. s f ∙ (quiet_of setup st e r).packets f)
        | inr h ↦ inr (before_gain setup st mid end (quiet_of setup st e r).lossless h)
      ]
      | inr h ↦ inr (after_gain setup st mid end h (run_no_loss setup most G k mid es (k.keeps st e g l.0) l.1))
    ]

pub entry_rounds : {S : Type 0} (setup : Setup S) (st : State S) (e : Entry) → (after setup st e).rounds ≤ st.rounds + 1
entry_rounds setup st (Take seat leaf) = omega arith
entry_rounds setup st (Give seat leaf) = omega (arith, given_rounds setup st leaf (st.pages leaf))
entry_rounds setup st (Net seat) = omega (arith, net_rounds setup st)

-- all pages were given since the last Net
all_given : {S : Type 0} (setup : Setup S) (st : State S) (b : Bool) → is_configured setup st ≡ true → (not (is_configured setup st) || all_to setup.size (λ i. is_served (st.pages i))) ≡ true → Covered setup st → PagesStill setup st
all_given setup st b conf m c i l =
    let a : all_to setup.size (λ j. is_served (st.pages j)) ≡ true = subst (λ (x : Bool). (not x || all_to setup.size (λ j. is_served (st.pages j))) ≡ true) conf m in
    c i l (all_below setup.size (λ j. is_served (st.pages j)) a i l)

still_at_net : {S : Type 0} (setup : Setup S) (st : State S) (seat : ℕ) → may setup st (Net seat) ≡ true → Calm setup st → Covered setup st → is_still setup st ≡ true
still_at_net setup st seat m c v =
    let a = both (goes_on setup st) _ m in
    still_of setup st c (all_given setup st true (configured setup st c.entries c.packets) a.1 v)

-- from a calm state in which each page that was given has come to rest, one Net is enough
calm_run : {S : Type 0} (setup : Setup S) (most : ℕ) (G : State S → Type 0) (k : IsKept setup most G) (st : State S) (es : List Entry) → G st → IsLegalFrom setup st es → Calm setup st → Covered setup st → st.rounds + 1 ≤ (run setup st es).rounds
    → (is_still setup (run setup st es) ≡ true) ⊎ Gains setup st (run setup st es)
calm_run setup most G k st [] g l c v r = absurd (omega arith)
calm_run {S = S} setup most G k st (Take seat leaf ∷ es) g l c v r =
    let e : Entry = Take seat leaf in
    let mid : State S = after setup st e in
    elim (entry_step setup most st e k.some (k.facts st g) l.0) [
      | inl q ↦ elim (calm_run setup most G k mid es (k.keeps st e g l.0) l.1 (calm_stays setup st mid k.some q c) (take_covered setup st seat leaf v) r) [
        | inl s ↦ inl s
        | inr h ↦ inr (before_gain setup st mid (run setup mid es) q.lossless h)
      ]
      | inr h ↦ inr (after_gain setup st mid (run setup mid es) h (run_no_loss setup most G k mid es (k.keeps st e g l.0) l.1))
    ]
calm_run {S = S} setup most G k st (Give seat leaf ∷ es) g l c v r =
    let e : Entry = Give seat leaf in
    let mid : State S = after setup st e in
    elim (entry_step setup most st e k.some (k.facts st g) l.0) [
      | inl q ↦ elim (calm_run setup most G k mid es (k.keeps st e g l.0) l.1 (calm_stays setup st mid k.some q.quiet c) (give_covered setup st mid leaf q v) (omega (arith, given_rounds setup st leaf (st.pages leaf), r))) [
        | inl s ↦ inl s
        | inr h ↦ inr (before_gain setup st mid (run setup mid es) q.quiet.lossless h)
      ]
      | inr h ↦ inr (after_gain setup st mid (run setup mid es) h (run_no_loss setup most G k mid es (k.keeps st e g l.0) l.1))
    ]
calm_run setup most G k st (Net seat ∷ es) g l c v r =
    inl (still_run setup most G k st (Net seat ∷ es) g l (still_at_net setup st seat l.0 c v))

-- with no packet under way, two Nets are enough
empty_run : {S : Type 0} (setup : Setup S) (most : ℕ) (G : State S → Type 0) (k : IsKept setup most G) (st : State S) (es : List Entry) → G st → IsLegalFrom setup st es → is_none_left (setup.net.under st.carrier) ≡ true → st.rounds + 2 ≤ (run setup st es).rounds
    → (is_still setup (run setup st es) ≡ true) ⊎ Gains setup st (run setup st es)
empty_run setup most G k st [] g l u r = absurd (omega arith)
empty_run {S = S} setup most G k st (Take seat leaf ∷ es) g l u r =
    let e : Entry = Take seat leaf in
    let mid : State S = after setup st e in
    elim (entry_step setup most st e k.some (k.facts st g) l.0) [
      | inl q ↦ elim (empty_run setup most G k mid es (k.keeps st e g l.0) l.1 u r) [
        | inl s ↦ inl s
        | inr h ↦ inr (before_gain setup st mid (run setup mid es) q.lossless h)
      ]
      | inr h ↦ inr (after_gain setup st mid (run setup mid es) h (run_no_loss setup most G k mid es (k.keeps st e g l.0) l.1))
    ]
empty_run {S = S} setup most G k st (Give seat leaf ∷ es) g l u r =
    let e : Entry = Give seat leaf in
    let mid : State S = after setup st e in
    elim (entry_step setup most st e k.some (k.facts st g) l.0) [
      | inl q ↦ elim (empty_run setup most G k mid es (k.keeps st e g l.0) l.1 (ap (λ (x : S). is_none_left (setup.net.under x)) q.carrier ∙ u) (omega (arith, given_rounds setup st leaf (st.pages leaf), r))) [
        | inl s ↦ inl s
        | inr h ↦ inr (before_gain setup st mid (run setup mid es) q.quiet.lossless h)
      ]
      | inr h ↦ inr (after_gain setup st mid (run setup mid es) h (run_no_loss setup most G k mid es (k.keeps st e g l.0) l.1))
    ]
empty_run {S = S} setup most G k st (Net seat ∷ es) g l u r =
    let e : Entry = Net seat in
    let mid : State S = after setup st e in
    let f : Facts setup most st = k.facts st g in
    elim (entry_step setup most st e k.some f l.0) [
      | inl q ↦ elim (calm_run setup most G k mid es (k.keeps st e g l.0) l.1 (calm_stays setup st mid k.some q.quiet (calm_at_net setup st mid k.some f.carries u q)) (net_covered setup st mid q) (omega (arith, net_rounds setup st, r))) [
        | inl s ↦ inl s
        | inr h ↦ inr (before_gain setup st mid (run setup mid es) q.quiet.lossless h)
      ]
      | inr h ↦ inr (after_gain setup st mid (run setup mid es) h (run_no_loss setup most G k mid es (k.keeps st e g l.0) l.1))
    ]

-- a packet is from before these rounds, or it is not so old
new_or_old : (most a b : ℕ) (p : Packet) → a + most ≤ b → (let x : ℕ = cond (is_old most b p) 1 0 in let y : ℕ = cond (is_new a p) 1 0 in 1 ≤ x + y)
new_or_old most a b p h = tests (nat_lt (p.stamp.round.0 + most) b) (nat_lt p.stamp.round.0 a) (λ t. (let l : p.stamp.round.0 < a = lt_true p.stamp.round.0 a t in (let m : p.stamp.round.0 + most < b = omega arith in grind (arith, nat_tests))))
  where
    tests : (s t : Bool) → (t ≡ true → s ≡ true) → (let x : ℕ = cond s 1 0 in let y : ℕ = cond (not t) 1 0 in 1 ≤ x + y)
    tests true true h = omega arith
    tests true false h = omega arith
    tests false true h = absurd (let x : false ≡ true = h refl in cc)
    tests false false h = omega arith

no_packet_at : (ps : List Packet) (most a b : ℕ) → a + most ≤ b → length ps ≤ count_by (is_old most b) ps + count_by (is_new a) ps
no_packet_at [] most a b h = omega arith
no_packet_at (p ∷ ps) most a b h =
    omega (arith, new_or_old most a b p h, no_packet_at ps most a b h, sum_by-cons (λ (q : Packet). cond (is_old most b q) 1 0) p ps, sum_by-cons (λ (q : Packet). cond (is_new a q) 1 0) p ps)

some_left : (ps : List Packet) → is_none_left ps ≡ false → length ps ≡ 0 → ⊥
some_left [] e n = let x : true ≡ false = e in cc
some_left (p ∷ ps) e n = omega arith

-- THE LAW: one round more than a packet may be under way uses something up, or the state is still.
pub progress : {S : Type 0} (setup : Setup S) (most : ℕ) (G : State S → Type 0) (k : IsKept setup most G) (st : State S) (es : List Entry) → G st → IsLegalFrom setup st es → 1 ≤ most → st.rounds + most + 1 ≤ (run setup st es).rounds
    → (is_still setup (run setup st es) ≡ true) ⊎ Gains setup st (run setup st es)
progress {S = S} setup most G k st es g l some r = progress_at (is_none_left (setup.net.under st.carrier)) refl
  where
    progress_at : (b : Bool) → is_none_left (setup.net.under st.carrier) ≡ b → (is_still setup (run setup st es) ≡ true) ⊎ Gains setup st (run setup st es)
    progress_at true e = empty_run setup most G k st es g l e (omega arith)
    progress_at false e =
        elim (same_or_gains setup most G k st es g l) [
          | inl same ↦ (
              let f : Facts setup most st = k.facts st g in
              let end : State S = run setup st es in
              let h : Facts setup most end = k.facts end (run_keeps setup most G k st es g l) in
              let old : count_by (is_old most end.rounds) (setup.net.under st.carrier) ≡ 0 = sym (same (λ (p : Packet). cond (is_old most end.rounds p) 1 0)) ∙ h.aged in
              let none : length (setup.net.under st.carrier) ≡ 0 = omega (arith, no_packet_at (setup.net.under st.carrier) most st.rounds end.rounds (omega arith), f.stamped) in
              absurd (some_left (setup.net.under st.carrier) e none))
          | inr h ↦ inr h
        ]

-- a run cut where so many rounds were made
record Split {S : Type 0} (setup : Setup S) (st : State S) (es : List Entry) (t : ℕ) : Type 0 where
  first : List Entry
  rest : List Entry
  legal_first : IsLegalFrom setup st first
  legal_rest : IsLegalFrom setup (run setup st first) rest
  same : run setup (run setup st first) rest ≡ run setup st es
  rounds : (run setup st first).rounds ≡ t

split : {S : Type 0} (setup : Setup S) (st : State S) (es : List Entry) (t : ℕ) → IsLegalFrom setup st es → st.rounds ≤ t → t ≤ (run setup st es).rounds → Split setup st es t
split setup st [] t l a b = record { first = []; rest = []; legal_first = tt; legal_rest = tt; same = refl; rounds = omega arith }
split {S = S} setup st (e ∷ es) t l a b =
    elim (cases_lt st.rounds t) [
      | inl m ↦ (
          let s : Split setup (after setup st e) es t = split setup (after setup st e) es t l.1 (omega (arith, entry_rounds setup st e)) b in
          record { first = e ∷ s.first; rest = s.rest; legal_first = (l.0, s.legal_first); legal_rest = s.legal_rest; same = s.same; rounds = s.rounds })
      | inr m ↦ record { first = []; rest = e ∷ es; legal_first = tt; legal_rest = l; same = refl; rounds = omega arith }
    ]

-- n times that many rounds use n up
pub windows : {S : Type 0} (setup : Setup S) (most : ℕ) (G : State S → Type 0) (k : IsKept setup most G) (n : ℕ) (st : State S) (es : List Entry) → G st → IsLegalFrom setup st es → 1 ≤ most → st.rounds + (most + 1) * n ≤ (run setup st es).rounds
    → (is_still setup (run setup st es) ≡ true) ⊎ (used setup st + owed setup (run setup st es) + n ≤ used setup (run setup st es) + owed setup st)
windows setup most G k zero st es g l some r =
    let h : NoLoss setup st (run setup st es) = run_no_loss setup most G k st es g l in
    inr (omega arith)
windows {S = S} setup most G k (suc n) st es g l some r =
    let e : (most + 1) * suc n ≡ (most + 1) * n + most + 1 = omega arith in
    let s : Split setup st es (st.rounds + most + 1) = split setup st es (st.rounds + most + 1) l (omega arith) (omega arith) in
    let mid : State S = run setup st s.first in
    let end : State S = run setup mid s.rest in
    let here : G mid = run_keeps setup most G k st s.first g s.legal_first in
    let later : mid.rounds + (most + 1) * n ≤ end.rounds = omega (arith, s.rounds, ap (λ (x : State S). x.rounds) s.same, r, e) in
    subst (λ (x : State S). (is_still setup x ≡ true) ⊎ (used setup st + owed setup x + suc n ≤ used setup x + owed setup st)) s.same (
    elim (progress setup most G k st s.first g s.legal_first some (omega (arith, s.rounds))) [
      | inl still ↦ inl (still_run setup most G k mid s.rest here s.legal_rest still)
      | inr gain ↦ elim (windows setup most G k n mid s.rest here s.legal_rest some later) [
        | inl still ↦ inl still
        | inr more ↦ inr (omega arith)
      ]
    ])

start_used : (o : Option Core) → page_used (start_page o) ≡ 0
start_used None = refl
start_used (Some c) = refl

-- a run that uses up no more than this, and isn't still at its end, has made fewer rounds
pub few_rounds : {S : Type 0} (setup : Setup S) (most : ℕ) (G : State S → Type 0) (k : IsKept setup most G) (es : List Entry) (events steps pages : ℕ) → G (start setup) → IsLegalFrom setup (start setup) es → 1 ≤ most
    → owed setup (start setup) ≡ 2 * length (changes setup) → used setup (run setup (start setup) es) ≤ 3 * events + steps + pages → is_still setup (run setup (start setup) es) ≡ false
    → (run setup (start setup) es).rounds < enough most events (length (changes setup)) steps pages
few_rounds {S = S} setup most G k es events steps pages g l some begin bound moving =
    let end : State S = run setup (start setup) es in
    let n : ℕ = 3 * events + 2 * length (changes setup) + steps + pages + 1 in
    let none : used setup (start setup) ≡ 0 = omega (arith, all_zero setup.size (λ i. page_used (start_page (core_at setup i))) (λ i m. start_used (core_at setup i))) in
    elim (cases_lt end.rounds ((most + 1) * n)) [
      | inl m ↦ m
      | inr m ↦ elim (windows setup most G k n (start setup) es g l some (omega arith)) [
        | inl still ↦ absurd (let x : true ≡ false = sym still ∙ moving in cc)
        | inr more ↦ absurd (omega arith)
      ]
    ]
