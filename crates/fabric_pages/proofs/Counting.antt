-- Each legal entry has room in the journal.
use Rattle.std.proofs.Common.{◌≡◌, ◌≢◌, ℕ, zero, suc, ◌+◌, ◌*◌, ◌<◌, ◌≤◌, Bool, true, false, not, cond, List, [], ◌∷◌, ◌++◌, length, refl, ap, sym, ◌∙◌, arith, Option, Some, None, subst, inl, inr, length-append}
use Rattle.std.specs.Prelude.{◌==◌, if◌then◌else◌, nat_lt, is_none}
use Rattle.std.proofs.lemmas.Bool.Decides.{nat_tests}
use Rattle.std.proofs.Math.Nat.{mul-le-mul_left}
use Rattle.net_tree.specs.Links.{sum_to}
use Rattle.pld_base.specs.declared.event.Event.TheVariants.{Read}
use Rattle.pld_base.specs.Events.{words_read}
use Rattle.pld_base.specs.Channels.{NodeEvent, OutputNode, family_of}
use Rattle.pld_base.proofs.Events.{words_read-append}
use Rattle.pld_image.specs.Cores.{Core, after_read, after_write}
use Rattle.pld_image.specs.declared.page.TurnEnd.{TurnEnd}
use Rattle.pld_image.specs.declared.page.TurnEnd.TheVariants.{AtRead, AtWrite, Ended, Limit}
use Rattle.leaf_port.specs.Leaf.{next_word, can_write}
use Rattle.fabric_run.specs.Turns.{Turned, turn}
use Rattle.fabric_run.specs.World.{Setup, State, PageState, placed, out_to, after_net, given, given_at, read_given, write_given, each_to, send, sent_by, receive, received_by, next_feed, hosted, ready, is_configured, out_at}
use Rattle.fabric_run.specs.Replay.{has_ended, is_ready, is_seat, is_held_by, goes_on, may, after}
use Rattle.fabric_run.specs.declared.entry.Entry.{Entry}
use Rattle.fabric_run.specs.declared.entry.Entry.TheVariants.{Take, Give, Net}
use Rattle.fabric_keeps.proofs.Base.{both, placed_here, placed_other, sum_le, sum_same, sum_placed, same_or, last_or}
use Rattle.fabric_keeps.proofs.Steps.{ready_keeps}
use Rattle.fabric_pages.specs.Slots.{outside}
use Rattle.fabric_pages.specs.Counted.{gives_of, one_page, charge, pages_out, charges, IsCounted}

none_some : {X : Type 0} (x : X) → None ≡ Some x → ⊥
none_some x e = cc

some_same : {X : Type 0} (x y : X) → Some x ≡ Some y → x ≡ y
some_same x y e = cc

-- Sums.

sum_eight : (n : ℕ) (g : ℕ → ℕ) → sum_to n (λ i. 8 * g i) ≡ 8 * sum_to n g
sum_eight zero g = refl
sum_eight (suc n) g = omega (arith, sum_eight n g)

one_below : (n : ℕ) (g : ℕ → ℕ) (i : ℕ) → i < n → g i ≤ sum_to n g
one_below zero g i l = absurd (omega arith)
one_below (suc n) g i l =
    elim (last_or n i l) [
      | inl s ↦ omega (arith, ap g s)
      | inr m ↦ omega (arith, one_below n g i m)
    ]

-- What pages are charged.

pub charges_most : {S : Type 0} (setup : Setup S) (many n : ℕ) (st : State S) → IsCounted setup many n st → charges setup st ≤ 8 * many
charges_most setup many n st c =
    omega (arith, sum_le setup.size (λ i. charge (st.pages i)) (λ i. 8 * one_page (st.pages i)) (λ i l. omega (arith, c.each i)), sum_eight setup.size (λ i. one_page (st.pages i)), c.pages)

twice : (n : ℕ) (g h : ℕ → ℕ) → ((i : ℕ) → i < n → 2 * h i ≤ g i) → 2 * sum_to n h ≤ sum_to n g
twice zero g h e = omega arith
twice (suc n) g h e = omega (arith, twice n g h (λ i l. e i (omega arith)), e n (omega arith))

out_charged : {S : Type 0} (setup : Setup S) (st : State S) → 2 * pages_out setup st ≤ charges setup st
out_charged setup st = twice setup.size (λ i. charge (st.pages i)) (λ i. outside (st.pages i)) (λ i l. omega arith)

-- a legal entry is made where rounds are left, or gives back a page that is out

going : {S : Type 0} (setup : Setup S) (st : State S) → goes_on setup st ≡ true → st.rounds < setup.allowed
going setup st e = (let r : nat_lt st.rounds setup.allowed ≡ true = (both (nat_lt st.rounds setup.allowed) _ e).0 in grind (arith, nat_tests))

seat_home : (seat : ℕ) (o : Option ℕ) → is_seat seat o ≡ true → is_none o ≡ false
seat_home seat None e = absurd (let x : false ≡ true = e in cc)
seat_home seat (Some s) e = refl

held_out : (seat : ℕ) (o : Option PageState) → is_held_by seat o ≡ true → outside o ≡ 1
held_out seat None e = absurd (let x : false ≡ true = e in cc)
held_out seat (Some p) e = ap (λ (b : Bool). cond {A = ℕ} b 0 1) (seat_home seat p.holder e)

pub data Makes {S : Type 0} (setup : Setup S) (st : State S) : Entry → Type 0 where
  Takes : (seat leaf : ℕ) (p : PageState) → st.rounds < setup.allowed → leaf < setup.size → st.pages leaf ≡ Some p → p.holder ≡ None → p.gives < 4 → has_ended p.end ≡ false → is_configured setup st ≡ true → Makes setup st (Take seat leaf)
  Gives : (seat leaf : ℕ) (p : PageState) → leaf < setup.size → st.pages leaf ≡ Some p → p.holder ≡ Some seat → Makes setup st (Give seat leaf)
  Nets : (seat : ℕ) → st.rounds < setup.allowed → Makes setup st (Net seat)

none_of : (o : Option ℕ) → is_none o ≡ true → o ≡ None
none_of None e = refl
none_of (Some x) e = absurd (let y : false ≡ true = e in cc)

seat_of : (seat : ℕ) (o : Option ℕ) → is_seat seat o ≡ true → o ≡ Some seat
seat_of seat None e = absurd (let x : false ≡ true = e in cc)
seat_of seat (Some s) e = (let x : s ≡ seat = grind (arith, nat_tests) in ap (λ (n : ℕ). Some n) x)

not_of : (b : Bool) → not b ≡ true → b ≡ false
not_of true e = absurd (let x : false ≡ true = e in cc)
not_of false e = refl

take_makes : {S : Type 0} (setup : Setup S) (st : State S) (seat leaf : ℕ) (o : Option PageState) → st.pages leaf ≡ o → st.rounds < setup.allowed → leaf < setup.size → is_configured setup st ≡ true → is_ready o ≡ true → Makes setup st (Take seat leaf)
take_makes setup st seat leaf None e r l c h = absurd (let x : false ≡ true = h in cc)
take_makes setup st seat leaf (Some p) e r l c h =
    let a = both (is_none p.holder) _ h in
    let b = both (not (has_ended p.end)) _ a.1 in
    Takes seat leaf p r l e (none_of p.holder a.0) (let g : nat_lt p.gives 4 ≡ true = b.1 in grind (arith, nat_tests)) (not_of (has_ended p.end) b.0) c

give_makes : {S : Type 0} (setup : Setup S) (st : State S) (seat leaf : ℕ) (o : Option PageState) → st.pages leaf ≡ o → leaf < setup.size → is_held_by seat o ≡ true → Makes setup st (Give seat leaf)
give_makes setup st seat leaf None e l h = absurd (let x : false ≡ true = h in cc)
give_makes setup st seat leaf (Some p) e l h = Gives seat leaf p l e (seat_of seat p.holder h)

-- what a legal entry is
pub makes : {S : Type 0} (setup : Setup S) (st : State S) (e : Entry) → may setup st e ≡ true → Makes setup st e
makes setup st (Take seat leaf) m =
    let a = both (goes_on setup st) _ m in
    let b = both (nat_lt leaf setup.size) _ a.1 in
    let c = both (is_configured setup st) _ b.1 in
    take_makes setup st seat leaf (st.pages leaf) refl (going setup st a.0) (let l : nat_lt leaf setup.size ≡ true = b.0 in grind (arith, nat_tests)) c.0 c.1
makes setup st (Give seat leaf) m =
    let a = both (nat_lt leaf setup.size) _ m in
    give_makes setup st seat leaf (st.pages leaf) refl (let l : nat_lt leaf setup.size ≡ true = a.0 in grind (arith, nat_tests)) a.1
makes setup st (Net seat) m = Nets seat (going setup st (both (goes_on setup st) _ m).0)

-- so many rounds of so many entries
rows_grow : (a b m : ℕ) → a < b → a * m + m ≤ b * m
rows_grow a b m l = omega (arith, mul-le-mul_left m (let s : a + 1 ≤ b = omega arith in s), (let e : m * (a + 1) ≡ a * m + m = omega arith in e), (let e : m * b ≡ b * m = omega arith in e))

left_room : {S : Type 0} (setup : Setup S) (many n : ℕ) (st : State S) → IsCounted setup many n st → st.rounds < setup.allowed → n < setup.allowed * (8 * many + 1)
left_room setup many n st c l =
    omega (arith, c.before l, charges_most setup many n st c, out_charged setup st, rows_grow st.rounds setup.allowed (8 * many + 1) l)

give_room : {S : Type 0} (setup : Setup S) (many n leaf : ℕ) (st : State S) → IsCounted setup many n st → leaf < setup.size → outside (st.pages leaf) ≡ 1 → n < setup.allowed * (8 * many + 1)
give_room setup many n leaf st c l out = by (nat_lt st.rounds setup.allowed) refl
  where
    by : (t : Bool) → nat_lt st.rounds setup.allowed ≡ t → n < setup.allowed * (8 * many + 1)
    by true e = left_room setup many n st c (grind (arith, nat_tests))
    by false e = omega (arith, c.last (let g : setup.allowed ≤ st.rounds = grind (arith, nat_tests) in omega (arith, c.rounds)), one_below setup.size (λ i. outside (st.pages i)) leaf l)

-- the journal has room for what it has
pub journal_fits : {S : Type 0} (setup : Setup S) (many n : ℕ) (st : State S) → IsCounted setup many n st → n ≤ setup.allowed * (8 * many + 1)
journal_fits setup many n st c = by (nat_lt st.rounds setup.allowed) refl
  where
    by : (t : Bool) → nat_lt st.rounds setup.allowed ≡ t → n ≤ setup.allowed * (8 * many + 1)
    by true e = (let l : st.rounds < setup.allowed = grind (arith, nat_tests) in omega (arith, left_room setup many n st c l))
    by false e = omega (arith, c.last (let g : setup.allowed ≤ st.rounds = grind (arith, nat_tests) in omega (arith, c.rounds)))

holder_out : (p : PageState) (seat : ℕ) → p.holder ≡ Some seat → outside (Some p) ≡ 1
holder_out p seat e = ap (λ (o : Option ℕ). cond {A = ℕ} (is_none o) 0 1) e

holder_home : (p : PageState) → p.holder ≡ None → outside (Some p) ≡ 0
holder_home p e = ap (λ (o : Option ℕ). cond {A = ℕ} (is_none o) 0 1) e

-- THE JOURNAL HAS ROOM for each legal entry
pub has_room : {S : Type 0} (setup : Setup S) (many n : ℕ) (st : State S) (e : Entry) → IsCounted setup many n st → may setup st e ≡ true → n < setup.allowed * (8 * many + 1)
has_room setup many n st e c m = by e (makes setup st e m)
  where
    by : (e : Entry) → Makes setup st e → n < setup.allowed * (8 * many + 1)
    by e (Takes seat leaf p r l there home few running conf) = left_room setup many n st c r
    by e (Gives seat leaf p l there held) = give_room setup many n leaf st c l (ap outside there ∙ holder_out p seat held)
    by e (Nets seat r) = left_room setup many n st c r

-- What an entry does to pages and outputs.

-- one page changes, and no event of an output happens
pub record Changes {S : Type 0} (st st' : State S) (leaf : ℕ) (o : Option PageState) : Type 0 where
  pub pages : st'.pages ≡ placed st.pages leaf o
  pub rounds : st'.rounds ≡ st.rounds
  pub outs : (j : ℕ) → out_at st' j ≡ out_at st j

back_of : PageState → Turned → Core → Option TurnEnd → PageState
back_of p t core end = record { core = core; steps = p.steps + t.steps; holder = None; gives = p.gives + 1; end = end }

-- a page has come home
pub record ComesHome {S : Type 0} (st st' : State S) (leaf : ℕ) (p : PageState) : Type 0 where
  pub page : PageState
  pub changes : Changes st st' leaf (Some page)
  pub home : page.holder ≡ None
  pub gives : page.gives ≡ p.gives + 1

read_home : {S : Type 0} (setup : Setup S) (st : State S) (i : ℕ) (p : PageState) (t : Turned) (j : ℕ) (o : Option ℕ) → ComesHome st (read_given setup st i p t j o) i p
read_home setup st i p t j None = record { page = record { core = t.core; steps = p.steps + t.steps; holder = None; gives = p.gives + 1; end = Some (AtRead (record { 0 = j })) }; changes = record { pages = refl; rounds = refl; outs = λ k. refl }; home = refl; gives = refl }
read_home setup st i p t j (Some w) = record { page = record { core = after_read t.core w; steps = p.steps + t.steps; holder = None; gives = p.gives + 1; end = None }; changes = record { pages = refl; rounds = refl; outs = λ k. refl }; home = refl; gives = refl }

write_home : {S : Type 0} (setup : Setup S) (st : State S) (i : ℕ) (p : PageState) (t : Turned) (k w : ℕ) (b : Bool) → ComesHome st (write_given setup st i p t k w b) i p
write_home setup st i p t k w false = record { page = record { core = t.core; steps = p.steps + t.steps; holder = None; gives = p.gives + 1; end = Some (AtWrite (record { 0 = k }) w) }; changes = record { pages = refl; rounds = refl; outs = λ j. refl }; home = refl; gives = refl }
write_home setup st i p t k w true = record { page = record { core = after_write t.core; steps = p.steps + t.steps; holder = None; gives = p.gives + 1; end = None }; changes = record { pages = refl; rounds = refl; outs = λ j. refl }; home = refl; gives = refl }

given_at_home : {S : Type 0} (setup : Setup S) (st : State S) (i : ℕ) (p : PageState) (t : Turned) (end : TurnEnd) → ComesHome st (given_at setup st i p t end) i p
given_at_home setup st i p t (AtRead j) = read_home setup st i p t j.0 (next_word (st.leaves i) j.0)
given_at_home setup st i p t (AtWrite k w) = write_home setup st i p t k.0 w (can_write (st.leaves i) k.0)
given_at_home setup st i p t Ended = record { page = record { core = t.core; steps = p.steps + t.steps; holder = None; gives = p.gives + 1; end = Some Ended }; changes = record { pages = refl; rounds = refl; outs = λ j. refl }; home = refl; gives = refl }
given_at_home setup st i p t Limit = record { page = record { core = t.core; steps = p.steps + t.steps; holder = None; gives = p.gives + 1; end = None }; changes = record { pages = refl; rounds = refl; outs = λ j. refl }; home = refl; gives = refl }

pub given_home : {S : Type 0} (setup : Setup S) (st : State S) (i : ℕ) (p : PageState) → st.pages i ≡ Some p → ComesHome st (given setup st i (st.pages i)) i p
given_home setup st i p e = subst (λ (o : Option PageState). ComesHome st (given setup st i o) i p) (sym e) (given_at_home setup st i p (turn p.core) (turn p.core).end)

-- The host: an output reads at most one word.

abbrev reads_one : {S : Type 0} → State S → State S → ℕ → ℕ → Type 0
reads_one st st' k j = (j ≢ k → out_at st' j ≡ out_at st j) × (length (out_at st' j) ≤ length (out_at st j) + 1)

read_event : (h : List NodeEvent) (k w j : ℕ) (t : Bool) → (k == j) ≡ t
    → words_read (if t then family_of h (OutputNode j) ++ Read (record { 0 = 0 }) w ∷ [] else family_of h (OutputNode j)) 0 ≡ words_read (family_of h (OutputNode j)) 0 ++ (if t then w ∷ [] else [])
read_event h k w j true e = words_read-append (family_of h (OutputNode j)) (Read (record { 0 = 0 }) w ∷ []) 0
read_event h k w j false e = sym (append_none (words_read (family_of h (OutputNode j)) 0))
  where
    append_none : (xs : List ℕ) → xs ++ [] ≡ xs
    append_none [] = refl
    append_none (x ∷ xs) = ap (λ l. x ∷ l) (append_none xs)

-- the words of an output behind an event of an output
pub out_more : {S : Type 0} (st : State S) (k w j : ℕ) → words_read (family_of ((record { node = OutputNode k; event = Read (record { 0 = 0 }) w }) ∷ st.history) (OutputNode j)) 0 ≡ out_at st j ++ (if k == j then w ∷ [] else [])
out_more st k w j = read_event st.history k w j (k == j) refl

one_word : (t : Bool) (w : ℕ) → length (if t then w ∷ [] else []) ≤ 1
one_word true w = omega arith
one_word false w = omega arith

no_word : (k j w : ℕ) (xs : List ℕ) → j ≢ k → xs ++ (if k == j then w ∷ [] else []) ≡ xs
no_word k j w xs ne = ap (λ (t : Bool). xs ++ (if t then w ∷ [] else [])) (let d : (k == j) ≡ false = grind (arith, nat_tests) in d) ∙ append_none xs
  where
    append_none : (xs : List ℕ) → xs ++ [] ≡ xs
    append_none [] = refl
    append_none (x ∷ xs) = ap (λ l. x ∷ l) (append_none xs)

received_one : {S : Type 0} (st : State S) (k j : ℕ) (o : Option ℕ) → reads_one st (received_by st k o) k j
received_one st k j None = (λ ne. refl, omega arith)
received_one st k j (Some w) = (
  λ ne. out_more st k w j ∙ no_word k j w (out_at st j) ne,
  omega (arith, ap length (out_more st k w j), length-append (out_at st j) (if k == j then w ∷ [] else []), one_word (k == j) w),
)

sent_none : {S : Type 0} (st : State S) (k j : ℕ) (o : Option ℕ) (b : Bool) → out_at (sent_by st k o b) j ≡ out_at st j
sent_none st k j None b = refl
sent_none st k j (Some w) false = refl
sent_none st k j (Some w) true = refl

sends_none : {S : Type 0} (setup : Setup S) (n j : ℕ) (st : State S) → out_at (each_to n (send setup) st) j ≡ out_at st j
sends_none setup zero j st = refl
sends_none setup (suc n) j st =
    let s = each_to n (send setup) st in
    sent_none s n j (next_feed setup s n) (can_write (s.leaves 0) n) ∙ sends_none setup n j st

-- outputs that have not had their turn keep their words
pub outputs_wait : {S : Type 0} (n j : ℕ) (st : State S) → n ≤ j → out_at (each_to n receive st) j ≡ out_at st j
outputs_wait zero j st h = refl
outputs_wait (suc n) j st h =
    let s = each_to n receive st in
    (received_one s n j (next_word (s.leaves 0) n)).0 (λ e. omega arith) ∙ outputs_wait n j st (omega arith)

outputs_grow : {S : Type 0} (n j : ℕ) (st : State S) → length (out_at (each_to n receive st) j) ≤ length (out_at st j) + 1
outputs_grow zero j st = omega arith
outputs_grow (suc n) j st =
    let one = received_one (each_to n receive st) n j (next_word ((each_to n receive st).leaves 0) n) in
    elim (same_or j n (j == n) refl) [
      | inl s ↦ omega (arith, one.1, ap length (outputs_wait n j st (omega arith)))
      | inr d ↦ omega (arith, outputs_grow n j st, ap length (one.0 d))
    ]

hosted_grow : {S : Type 0} (setup : Setup S) (st : State S) (j : ℕ) → length (out_at (hosted setup st) j) ≤ length (out_at st j) + 1
hosted_grow setup st j = omega (arith, outputs_grow setup.outputs j (each_to setup.inputs (send setup) st), ap length (sends_none setup setup.inputs j st))

ready_grow : {S : Type 0} (setup : Setup S) (st : State S) (j : ℕ) → length (out_at (ready setup st) j) ≤ length (out_at st j) + 1
ready_grow setup st j = by (is_configured setup st)
  where
    by : (b : Bool) → length (out_at (if b then hosted setup st else st) j) ≤ length (out_at st j) + 1
    by true = hosted_grow setup st j
    by false = omega arith

-- The counts go on.

net_outside : (o : Option PageState) → outside (after_net o) ≡ outside o
net_outside None = refl
net_outside (Some p) = refl

net_page : (o : Option PageState) → one_page (after_net o) ≡ one_page o
net_page None = refl
net_page (Some p) = refl

net_gives : (o : Option PageState) → gives_of (after_net o) ≡ 0
net_gives None = refl
net_gives (Some p) = refl

module _ {S : Type 0} (setup : Setup S) (many n : ℕ) (st st' : State S) (c : IsCounted setup many n st) where
  placed_each : (leaf : ℕ) (q : PageState) → q.gives + outside (Some q) ≤ 4 → (i : ℕ) → gives_of (placed st.pages leaf (Some q) i) + outside (placed st.pages leaf (Some q) i) ≤ 4 * one_page (placed st.pages leaf (Some q) i)
  placed_each leaf q few i =
      elim (same_or i leaf (i == leaf) refl) [
        | inl e ↦ subst (λ (o : Option PageState). gives_of o + outside o ≤ 4 * one_page o) (sym (ap (placed st.pages leaf (Some q)) e ∙ placed_here st.pages leaf (Some q))) few
        | inr ne ↦ subst (λ (o : Option PageState). gives_of o + outside o ≤ 4 * one_page o) (sym (placed_other st.pages leaf (Some q) i ne)) (c.each i)
      ]

  -- one page changes
  page_counted : (leaf : ℕ) (p q : PageState) → leaf < setup.size → st.pages leaf ≡ Some p → Changes st st' leaf (Some q) → q.gives + outside (Some q) ≤ 4
      → 1 + (outside (Some q) + 2 * (p.gives + outside (Some p))) ≤ outside (Some p) + 2 * (q.gives + outside (Some q))
      → (st.rounds ≡ setup.allowed → 1 + outside (Some q) ≤ outside (Some p))
      → IsCounted setup many (n + 1) st'
  page_counted leaf p q l there h few balance late =
      let outs : sum_to setup.size (λ i. outside (placed st.pages leaf (Some q) i)) + outside (st.pages leaf) ≡ pages_out setup st + outside (Some q) = sum_placed setup.size outside st.pages leaf (Some q) l in
      let charged : sum_to setup.size (λ i. charge (placed st.pages leaf (Some q) i)) + charge (st.pages leaf) ≡ charges setup st + charge (Some q) = sum_placed setup.size charge st.pages leaf (Some q) l in
      let ones : sum_to setup.size (λ i. one_page (placed st.pages leaf (Some q) i)) + one_page (st.pages leaf) ≡ sum_to setup.size (λ i. one_page (st.pages i)) + one_page (Some q) = sum_placed setup.size one_page st.pages leaf (Some q) l in
      let out_same : sum_to setup.size (λ i. outside (st'.pages i)) ≡ sum_to setup.size (λ i. outside (placed st.pages leaf (Some q) i)) = ap (λ (f : ℕ → Option PageState). sum_to setup.size (λ i. outside (f i))) h.pages in
      let charge_same : sum_to setup.size (λ i. charge (st'.pages i)) ≡ sum_to setup.size (λ i. charge (placed st.pages leaf (Some q) i)) = ap (λ (f : ℕ → Option PageState). sum_to setup.size (λ i. charge (f i))) h.pages in
      let one_same : sum_to setup.size (λ i. one_page (st'.pages i)) ≡ sum_to setup.size (λ i. one_page (placed st.pages leaf (Some q) i)) = ap (λ (f : ℕ → Option PageState). sum_to setup.size (λ i. one_page (f i))) h.pages in
      let out_old : outside (st.pages leaf) ≡ outside (Some p) = ap outside there in
      let charge_old : charge (st.pages leaf) ≡ 2 * (p.gives + outside (Some p)) = ap charge there in
      let one_old : one_page (st.pages leaf) ≡ 1 = ap one_page there in
      let rows : st'.rounds * (8 * many + 1) ≡ st.rounds * (8 * many + 1) = ap (λ k. k * (8 * many + 1)) h.rounds in
      record {
        pages = omega (arith, ones, one_same, one_old, c.pages);
        each = λ i. subst (λ (f : ℕ → Option PageState). gives_of (f i) + outside (f i) ≤ 4 * one_page (f i)) (sym h.pages) (placed_each leaf q few i);
        rounds = omega (arith, c.rounds, h.rounds);
        before = λ r. omega (arith, c.before (omega (arith, h.rounds)), outs, charged, out_same, charge_same, out_old, charge_old, rows, balance);
        last = λ r. omega (arith, c.last (omega (arith, h.rounds)), outs, out_same, out_old, late (omega (arith, h.rounds)));
        outs = λ j. omega (arith, c.outs j, ap length (h.outs j), h.rounds);
      }

  -- a round
  round_counted : st.rounds < setup.allowed → st'.pages ≡ (λ i. after_net (st.pages i)) → st'.rounds ≡ st.rounds + 1 → ((j : ℕ) → length (out_at st' j) ≤ length (out_at st j) + 1) → IsCounted setup many (n + 1) st'
  round_counted l pages rounds grown =
      let out_same : sum_to setup.size (λ i. outside (st'.pages i)) ≡ pages_out setup st =
      ap (λ (f : ℕ → Option PageState). sum_to setup.size (λ i. outside (f i))) pages ∙ sum_same setup.size (λ i. outside (after_net (st.pages i))) (λ i. outside (st.pages i)) (λ i m. net_outside (st.pages i)) in
      let one_same : sum_to setup.size (λ i. one_page (st'.pages i)) ≡ sum_to setup.size (λ i. one_page (st.pages i)) =
      ap (λ (f : ℕ → Option PageState). sum_to setup.size (λ i. one_page (f i))) pages ∙ sum_same setup.size (λ i. one_page (after_net (st.pages i))) (λ i. one_page (st.pages i)) (λ i m. net_page (st.pages i)) in
      let rows : st'.rounds * (8 * many + 1) ≡ st.rounds * (8 * many + 1) + (8 * many + 1) = ap (λ k. k * (8 * many + 1)) rounds ∙ (let e : (st.rounds + 1) * (8 * many + 1) ≡ st.rounds * (8 * many + 1) + (8 * many + 1) = omega arith in e) in
      record {
        pages = omega (arith, one_same, c.pages);
        each = λ i. subst (λ (f : ℕ → Option PageState). gives_of (f i) + outside (f i) ≤ 4 * one_page (f i)) (sym pages) (omega (arith, c.each i, net_outside (st.pages i), net_page (st.pages i), net_gives (st.pages i)));
        rounds = omega (arith, rounds);
        before = λ r. omega (arith, c.before l, charges_most setup many n st c, out_same, rows, out_charged setup st');
        last = λ r. omega (arith, c.before l, charges_most setup many n st c, out_same, rows, (let e : st'.rounds * (8 * many + 1) ≡ setup.allowed * (8 * many + 1) = ap (λ k. k * (8 * many + 1)) r in e));
        outs = λ j. omega (arith, c.outs j, grown j, rounds);
      }

taken_changes : {S : Type 0} (setup : Setup S) (st : State S) (seat leaf : ℕ) (p : PageState) → st.pages leaf ≡ Some p → Changes st (after setup st (Take seat leaf)) leaf (Some (record p { holder = Some seat }))
taken_changes setup st seat leaf p e = record { pages = ap (λ (o : Option PageState). placed st.pages leaf (out_to seat o)) e; rounds = refl; outs = λ j. refl }

pub counted_next : {S : Type 0} (setup : Setup S) (many n : ℕ) (st : State S) (e : Entry) → IsCounted setup many n st → may setup st e ≡ true → IsCounted setup many (n + 1) (after setup st e)
counted_next setup many n st e c m = by e (makes setup st e m)
  where
    by : (e : Entry) → Makes setup st e → IsCounted setup many (n + 1) (after setup st e)
    by e (Takes seat leaf p r l there home few running conf) =
        let q : PageState = record p { holder = Some seat } in
        page_counted setup many n st (after setup st (Take seat leaf)) c leaf p q l there (taken_changes setup st seat leaf p there)
        (omega (arith, few)) (omega (arith, holder_home p home)) (λ s. absurd (omega arith))
    by e (Gives seat leaf p l there held) =
        let h : ComesHome st (given setup st leaf (st.pages leaf)) leaf p = given_home setup st leaf p there in
        page_counted setup many n st (after setup st (Give seat leaf)) c leaf p h.page l there h.changes
        (omega (arith, c.each leaf, ap gives_of there, ap outside there, ap one_page there, h.gives, holder_home h.page h.home, holder_out p seat held))
        (omega (arith, h.gives, holder_home h.page h.home, holder_out p seat held)) (λ s. omega (arith, holder_home h.page h.home, holder_out p seat held))
    by e (Nets seat r) =
        round_counted setup many n st (after setup st (Net seat)) c r (ap (λ (f : ℕ → Option PageState). λ i. after_net (f i)) (ready_keeps setup st).pages) (ap (λ k. k + 1) (ready_keeps setup st).rounds) (λ j. ready_grow setup st j)
