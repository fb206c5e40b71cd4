-- The journal of `plain` is legal, and there is one.
use Rattle.std.proofs.Common.{◌≡◌, ℕ, zero, suc, ◌+◌, ◌<◌, ◌⊎◌, ◌&&◌, ◌||◌, not, Bool, true, false, List, [], ◌∷◌, refl, ap, sym, ◌∙◌, arith, Option, Some, None, IsSome, subst, inl, inr}
use Rattle.std.specs.Prelude.{if◌then◌else◌, ◌==◌, nat_lt, is_none}
use Rattle.std.proofs.lemmas.Bool.Decides.{nat_tests}
use Rattle.fabric_run.specs.World.{Setup, State, PageState, core_at, placed, all_to, start_page, start, is_configured, after_net, ready, returned, read_given, write_given, given_at, given, out_to}
use Rattle.leaf_port.specs.Leaf.{next_word, can_write}
use Rattle.pld_image.specs.Cores.{Core, after_read, after_write}
use Rattle.pld_image.specs.declared.page.TurnEnd.{TurnEnd}
use Rattle.pld_image.specs.declared.page.TurnEnd.TheVariants.{AtRead, AtWrite, Ended, Limit}
use Rattle.fabric_run.specs.Turns.{Turned, turn}
use Rattle.fabric_run.specs.Replay.{has_ended, is_home, none_out, is_still, is_over, all_ended, outcome, is_ready, is_seat, is_held_by, is_served, goes_on, may, after, run, replay, IsLegal, IsLegalFrom, or_else, first_to, take_or_net, give_or, plain_entry, IsPlain, IsPlainFrom}
use Rattle.fabric_run.specs.declared.entry.Entry.{Entry}
use Rattle.fabric_run.specs.declared.entry.Entry.TheVariants.{Net}
use Rattle.fabric_run.specs.declared.row.Outcome.TheVariants.{Done, Stalled, Spent}
use Rattle.fabric_keeps.proofs.Base.{and_of, below_all, all_below, same_eq, last_or, placed_here, placed_other}
use Rattle.fabric_keeps.proofs.Base.{same_or}
use Rattle.fabric_keeps.proofs.Steps.{ready_keeps}

-- a page that is out is held by seat 0
abbrev IsPlainly : Option PageState → Type 0
IsPlainly None = Unit {0}
IsPlainly (Some p) = (seat : ℕ) → p.holder ≡ Some seat → seat ≡ 0

none_some : {X : Type 0} (x : X) → None ≡ Some x → ⊥
none_some x e = cc

some_same : {X : Type 0} (x y : X) → Some x ≡ Some y → x ≡ y
some_same x y e = cc

or_some : (o : Option ℕ) (t : Bool) (n k : ℕ) → or_else o t n ≡ Some k → (o ≡ Some k) ⊎ ((t ≡ true) × (k ≡ n))
or_some None true n k e = inr (refl, sym (some_same n k e))
or_some None false n k e = absurd (none_some k e)
or_some (Some i) t n k e = inl e

or_none : (o : Option ℕ) (t : Bool) (n : ℕ) → or_else o t n ≡ None → (o ≡ None) × (t ≡ false)
or_none None true n e = absurd (none_some n (sym e))
or_none None false n e = (refl, refl)
or_none (Some i) t n e = absurd (none_some i (sym e))

first_some : (n : ℕ) (t : ℕ → Bool) (k : ℕ) → first_to n t ≡ Some k → (k < n) × (t k ≡ true)
first_some zero t k e = absurd (none_some k e)
first_some (suc n) t k e =
    elim (or_some (first_to n t) (t n) n k e) [
      | inl h ↦ (let r = first_some n t k h in (omega (arith, r.0), r.1))
      | inr h ↦ (omega (arith, h.1), ap t h.1 ∙ h.0)
    ]

first_none : (n : ℕ) (t : ℕ → Bool) → first_to n t ≡ None → (k : ℕ) → k < n → t k ≡ false
first_none zero t e k l = absurd (omega arith)
first_none (suc n) t e k l =
    let h = or_none (first_to n t) (t n) n e in
    elim (last_or n k l) [
      | inl s ↦ ap t s ∙ h.1
      | inr m ↦ first_none n t h.0 k m
    ]

not_true_of : (b : Bool) → not b ≡ false → b ≡ true
not_true_of true e = refl
not_true_of false e = absurd (let x : true ≡ false = e in cc)

not_false_of : (b : Bool) → not b ≡ true → b ≡ false
not_false_of true e = absurd (let x : false ≡ true = e in cc)
not_false_of false e = refl

not_over : {S : Type 0} (setup : Setup S) (st : State S) → outcome setup st ≡ None → is_over setup st ≡ false
not_over setup st e = by (is_over setup st) (is_still setup st) (all_ended setup st) refl e
  where
    by : (a b c : Bool) → is_over setup st ≡ a → (if a then (if b then (if c then Some Done else Some Stalled) else Some Spent) else None) ≡ None → is_over setup st ≡ false
    by true true true f h = absurd (none_some Done (sym h))
    by true true false f h = absurd (none_some Stalled (sym h))
    by true false c f h = absurd (none_some Spent (sym h))
    by false b c f h = f

-- every page at home is free to be taken, a page that is out is held by seat 0
served_free : (o : Option PageState) → IsPlainly o → is_home o ≡ true → is_served o ≡ false → is_ready o ≡ true
served_free None h home served = absurd (let x : true ≡ false = served in cc)
served_free (Some p) h home served = by (has_ended p.end) (nat_lt 0 p.gives) refl refl served
  where
    by : (a b : Bool) → has_ended p.end ≡ a → nat_lt 0 p.gives ≡ b → (a || b) ≡ false → (is_none p.holder && (not (has_ended p.end) && nat_lt p.gives 4)) ≡ true
    by true b f g s = absurd (let x : true ≡ false = s in cc)
    by false true f g s = absurd (let x : true ≡ false = s in cc)
    by false false f g s = and_of (is_none p.holder) _ home (and_of (not (has_ended p.end)) _ (ap not f) (let few : p.gives ≡ 0 = grind (arith, nat_tests) in grind (arith, nat_tests)))

abbrev AllPlainly : {S : Type 0} → Setup S → State S → Type 0
AllPlainly setup st = (i : ℕ) → i < setup.size → IsPlainly (st.pages i)

held_by_first : (o : Option PageState) → IsPlainly o → not (is_home o) ≡ true → is_held_by 0 o ≡ true
held_by_first None h e = absurd (let x : false ≡ true = e in cc)
held_by_first (Some p) h e = by p.holder refl e
  where
    by : (o : Option ℕ) → p.holder ≡ o → not (is_none o) ≡ true → is_seat 0 o ≡ true
    by None f g = absurd (let x : false ≡ true = g in cc)
    by (Some seat) f g = same_eq seat 0 (h seat f)

-- rounds are left in a state that isn't over and has no page out
rounds_left : {S : Type 0} (setup : Setup S) (st : State S) → is_over setup st ≡ false → none_out setup st ≡ true → nat_lt st.rounds setup.allowed ≡ true
rounds_left setup st e home = by (is_still setup st) (nat_lt st.rounds setup.allowed) refl (sym (ap (λ (b : Bool). b && (is_still setup st || not (nat_lt st.rounds setup.allowed))) home) ∙ e)
  where
    by : (a b : Bool) → nat_lt st.rounds setup.allowed ≡ b → (a || not b) ≡ false → nat_lt st.rounds setup.allowed ≡ true
    by true b f h = absurd (let x : true ≡ false = h in cc)
    by false true f h = f
    by false false f h = absurd (let x : true ≡ false = h in cc)

may_plain : {S : Type 0} (setup : Setup S) (st : State S) → AllPlainly setup st → outcome setup st ≡ None → may setup st (plain_entry setup st) ≡ true
may_plain setup st plainly e = by (first_to setup.size (λ i. not (is_home (st.pages i)))) refl
  where
    going : none_out setup st ≡ true → goes_on setup st ≡ true
    going home = and_of (nat_lt st.rounds setup.allowed) _ (rounds_left setup st (not_over setup st e) home) (ap not (not_over setup st e))

    by_due : none_out setup st ≡ true → is_configured setup st ≡ true → (o : Option ℕ) → first_to setup.size (λ i. not (is_served (st.pages i))) ≡ o → may setup st (take_or_net o) ≡ true
    by_due home conf None f =
        and_of (goes_on setup st) _ (going home)
        (ap (λ (b : Bool). not b || all_to setup.size (λ i. is_served (st.pages i))) conf
        ∙ below_all setup.size (λ i. is_served (st.pages i)) (λ i l. not_true_of (is_served (st.pages i)) (first_none setup.size (λ k. not (is_served (st.pages k))) f i l)))
    by_due home conf (Some leaf) f =
        let r = first_some setup.size (λ k. not (is_served (st.pages k))) leaf f in
        and_of (goes_on setup st) _ (going home)
        (and_of (nat_lt leaf setup.size) _ (let l : leaf < setup.size = r.0 in grind (arith, nat_tests))
        (and_of (is_configured setup st) _ conf
        (served_free (st.pages leaf) (plainly leaf r.0) (all_below setup.size (λ i. is_home (st.pages i)) home leaf r.0) (not_false_of (is_served (st.pages leaf)) r.1))))

    by_conf : none_out setup st ≡ true → (b : Bool) → is_configured setup st ≡ b → may setup st (if b then take_or_net (first_to setup.size (λ i. not (is_served (st.pages i)))) else Net 0) ≡ true
    by_conf home true c = by_due home c (first_to setup.size (λ i. not (is_served (st.pages i)))) refl
    by_conf home false c = and_of (goes_on setup st) _ (going home) (ap (λ (b : Bool). not b || all_to setup.size (λ i. is_served (st.pages i))) c)

    by : (o : Option ℕ) → first_to setup.size (λ i. not (is_home (st.pages i))) ≡ o
        → may setup st (give_or o (if is_configured setup st then take_or_net (first_to setup.size (λ i. not (is_served (st.pages i)))) else Net 0)) ≡ true
    by None f =
        by_conf (below_all setup.size (λ i. is_home (st.pages i)) (λ i l. not_true_of (is_home (st.pages i)) (first_none setup.size (λ k. not (is_home (st.pages k))) f i l))) (is_configured setup st) refl
    by (Some leaf) f =
        let r = first_some setup.size (λ k. not (is_home (st.pages k))) leaf f in
        and_of (nat_lt leaf setup.size) _ (let l : leaf < setup.size = r.0 in grind (arith, nat_tests)) (held_by_first (st.pages leaf) (plainly leaf r.0) r.1)

-- seat 0 alone takes pages
homed : (q : PageState) → q.holder ≡ None → IsPlainly (Some q)
homed q e seat h = absurd (none_some seat (sym e ∙ h))

placed_plainly : {S : Type 0} (setup : Setup S) (st : State S) (i : ℕ) (o : Option PageState) → IsPlainly o → AllPlainly setup st → (j : ℕ) → j < setup.size → IsPlainly (placed st.pages i o j)
placed_plainly setup st i o h all j l =
    elim (same_or j i (j == i) refl) [
      | inl e ↦ subst IsPlainly (sym (ap (placed st.pages i o) e ∙ placed_here st.pages i o)) h
      | inr n ↦ subst IsPlainly (sym (placed_other st.pages i o j n)) (all j l)
    ]

out_plainly : (o : Option PageState) → IsPlainly (out_to 0 o)
out_plainly None = tt
out_plainly (Some p) = λ seat e. sym (some_same 0 seat e)

net_plainly : (o : Option PageState) → IsPlainly o → IsPlainly (after_net o)
net_plainly None h = tt
net_plainly (Some p) h = h

back_plainly : {S : Type 0} (setup : Setup S) (st : State S) (i : ℕ) (p : PageState) (t : Turned) (core : Core) (end : Option TurnEnd) → AllPlainly setup st → (j : ℕ) → j < setup.size → IsPlainly (placed st.pages i (returned p t core end) j)
back_plainly setup st i p t core end h =
    placed_plainly setup st i (returned p t core end) (homed (record { core = core; steps = p.steps + t.steps; holder = None; gives = p.gives + 1; end = end }) refl) h

given_plainly : {S : Type 0} (setup : Setup S) (st : State S) (i : ℕ) (o : Option PageState) → AllPlainly setup st → AllPlainly setup (given setup st i o)
given_plainly setup st i None h = h
given_plainly setup st i (Some p) h = at (turn p.core).end
  where
    read : (j : ℕ) (o : Option ℕ) → AllPlainly setup (read_given setup st i p (turn p.core) j o)
    read j None = back_plainly setup st i p (turn p.core) (turn p.core).core (Some (AtRead (record { 0 = j }))) h
    read j (Some w) = back_plainly setup st i p (turn p.core) (after_read (turn p.core).core w) None h

    write : (k w : ℕ) (b : Bool) → AllPlainly setup (write_given setup st i p (turn p.core) k w b)
    write k w false = back_plainly setup st i p (turn p.core) (turn p.core).core (Some (AtWrite (record { 0 = k }) w)) h
    write k w true = back_plainly setup st i p (turn p.core) (after_write (turn p.core).core) None h

    at : (end : TurnEnd) → AllPlainly setup (given_at setup st i p (turn p.core) end)
    at (AtRead j) = read j.0 (next_word (st.leaves i) j.0)
    at (AtWrite k w) = write k.0 w (can_write (st.leaves i) k.0)
    at Ended = back_plainly setup st i p (turn p.core) (turn p.core).core (Some Ended) h
    at Limit = back_plainly setup st i p (turn p.core) (turn p.core).core None h

plain_plainly : {S : Type 0} (setup : Setup S) (st : State S) → AllPlainly setup st → AllPlainly setup (after setup st (plain_entry setup st))
plain_plainly {S = S} setup st h = by (first_to setup.size (λ i. not (is_home (st.pages i))))
  where
    net : AllPlainly setup (after setup st (Net 0))
    net i l = net_plainly ((ready setup st).pages i) (subst IsPlainly (sym (ap (λ (f : ℕ → Option PageState). f i) (ready_keeps setup st).pages)) (h i l))

    by_due : (o : Option ℕ) → AllPlainly setup (after setup st (take_or_net o))
    by_due None = net
    by_due (Some leaf) = placed_plainly setup st leaf (out_to 0 (st.pages leaf)) (out_plainly (st.pages leaf)) h

    by_conf : (b : Bool) → AllPlainly setup (after setup st (if b then take_or_net (first_to setup.size (λ i. not (is_served (st.pages i)))) else Net 0))
    by_conf true = by_due (first_to setup.size (λ i. not (is_served (st.pages i))))
    by_conf false = net

    by : (o : Option ℕ) → AllPlainly setup (after setup st (give_or o (if is_configured setup st then take_or_net (first_to setup.size (λ i. not (is_served (st.pages i)))) else Net 0)))
    by None = by_conf (is_configured setup st)
    by (Some leaf) = given_plainly setup st leaf (st.pages leaf) h

legal_from : {S : Type 0} (setup : Setup S) (st : State S) (es : List Entry) → AllPlainly setup st → IsPlainFrom setup st es → IsLegalFrom setup st es
legal_from setup st [] h p = tt
legal_from {S = S} setup st (e ∷ es) h p =
    let m : may setup st e ≡ true = subst (λ (x : Entry). may setup st x ≡ true) (sym p.1) (may_plain setup st h p.0) in
    let n : AllPlainly setup (after setup st e) = subst (λ (x : Entry). AllPlainly setup (after setup st x)) (sym p.1) (plain_plainly setup st h) in
    (m, legal_from setup (after setup st e) es n p.2)

start_plainly : {S : Type 0} (setup : Setup S) → AllPlainly setup (start setup)
start_plainly setup i l = by (core_at setup i)
  where
    by : (o : Option Core) → IsPlainly (start_page o)
    by None = tt
    by (Some c) = homed (record { core = c; steps = 0; holder = None; gives = 0; end = None }) refl

pub plain_legal : {S : Type 0} (setup : Setup S) (es : List Entry) → IsPlain setup es → IsLegal setup es
plain_legal setup es p = legal_from setup (start setup) es (start_plainly setup) p

-- two runs of `plain` that are over are one
over_some : {X : Type 0} (o : Option X) → o ≡ None → IsSome o → ⊥
over_some None e h = let x : false ≡ true = h in cc
over_some (Some x) e h = none_some x (sym e)

one_from : {S : Type 0} (setup : Setup S) (st : State S) (es fs : List Entry) → IsPlainFrom setup st es → IsSome (outcome setup (run setup st es)) → IsPlainFrom setup st fs → IsSome (outcome setup (run setup st fs)) → es ≡ fs
one_from setup st [] [] p o q r = refl
one_from setup st [] (f ∷ fs) p o q r = absurd (over_some (outcome setup st) q.0 o)
one_from setup st (e ∷ es) [] p o q r = absurd (over_some (outcome setup st) p.0 r)
one_from {S = S} setup st (e ∷ es) (f ∷ fs) p o q r =
    let s : e ≡ f = p.1 ∙ sym q.1 in
    let p1 : IsPlainFrom setup (after setup st f) es = subst (λ (x : Entry). IsPlainFrom setup (after setup st x) es) s p.2 in
    let o1 : IsSome (outcome setup (run setup (after setup st f) es)) = subst (λ (x : Entry). IsSome (outcome setup (run setup (after setup st x) es))) s o in
    ap (λ (x : Entry). x ∷ es) s ∙ ap (λ (xs : List Entry). f ∷ xs) (one_from setup (after setup st f) es fs p1 o1 q.2 r)

pub plain_one : {S : Type 0} (setup : Setup S) (es fs : List Entry) → IsPlain setup es → IsSome (outcome setup (replay setup es)) → IsPlain setup fs → IsSome (outcome setup (replay setup fs)) → es ≡ fs
plain_one setup es fs p o q r = one_from setup (start setup) es fs p o q r
