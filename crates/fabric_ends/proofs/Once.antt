-- A run ends once: where an entry is legal, the run isn't over.
use Rattle.std.proofs.Common.{◌≡◌, ℕ, Bool, true, false, List, [], ◌∷◌, ◌++◌, refl, ap, Option, Some, None}
use Rattle.std.specs.Prelude.{if◌then◌else◌, ◌&&◌, ◌||◌, not, nat_lt}
use Rattle.fabric_run.specs.declared.row.Outcome.TheVariants.{Done, Stalled, Spent}
use Rattle.fabric_run.specs.declared.entry.Entry.{Entry}
use Rattle.fabric_run.specs.declared.entry.Entry.TheVariants.{Take, Give, Net}
use Rattle.fabric_run.specs.World.{Setup, State, PageState, start}
use Rattle.fabric_run.specs.Replay.{may, after, run, replay, outcome, is_over, is_still, all_ended, none_out, is_home, is_held_by, is_seat, goes_on, IsLegal, IsLegalFrom}
use Rattle.fabric_keeps.proofs.Base.{both, all_below, lt_true}

not_true : (b : Bool) → not b ≡ true → b ≡ false
not_true true e = absurd (let x : false ≡ true = e in cc)
not_true false e = refl

held_away : (seat : ℕ) (o : Option PageState) → is_held_by seat o ≡ true → is_home o ≡ true → ⊥
held_away seat None held home = (let x : false ≡ true = held in cc)
held_away seat (Some p) held home = by p.holder held home
  where
    by : (o : Option ℕ) → is_seat seat o ≡ true → is_home (Some (record p { holder = o })) ≡ true → ⊥
    by None h e = (let x : false ≡ true = h in cc)
    by (Some other) h e = (let x : false ≡ true = e in cc)

none_over : {S : Type 0} (setup : Setup S) (st : State S) (out : Bool) → none_out setup st ≡ out → (out ≡ true → ⊥) → is_over setup st ≡ false
none_over setup st true e home = absurd (home refl)
none_over setup st false e home = ap (λ (b : Bool). b && (is_still setup st || not (nat_lt st.rounds setup.allowed))) e

goes_not_over : {S : Type 0} (setup : Setup S) (st : State S) → goes_on setup st ≡ true → is_over setup st ≡ false
goes_not_over setup st h = not_true (is_over setup st) (both (nat_lt st.rounds setup.allowed) (not (is_over setup st)) h).1

may_not_over : {S : Type 0} (setup : Setup S) (st : State S) (e : Entry) → may setup st e ≡ true → is_over setup st ≡ false
may_not_over setup st (Take seat leaf) m = goes_not_over setup st (both (goes_on setup st) _ m).0
may_not_over setup st (Give seat leaf) m =
    let a = both (nat_lt leaf setup.size) (is_held_by seat (st.pages leaf)) m in
    none_over setup st (none_out setup st) refl (λ all. held_away seat (st.pages leaf) a.1 (all_below setup.size (λ i. is_home (st.pages i)) all leaf (lt_true leaf setup.size a.0)))
may_not_over setup st (Net seat) m = goes_not_over setup st (both (goes_on setup st) _ m).0

last_legal : {S : Type 0} (setup : Setup S) (st : State S) (front rest : List Entry) (e : Entry) → IsLegalFrom setup st (front ++ e ∷ rest) → may setup (run setup st front) e ≡ true
last_legal setup st [] rest e l = l.0
last_legal setup st (d ∷ front) rest e l = last_legal setup (after setup st d) front rest e l.1

pub ends_once : {S : Type 0} (setup : Setup S) (front rest : List Entry) (e : Entry) → IsLegal setup (front ++ e ∷ rest) → outcome setup (replay setup front) ≡ None
ends_once setup front rest e l =
    let now = replay setup front in
    ap (λ (b : Bool). if b then (if is_still setup now then (if all_ended setup now then Some Done else Some Stalled) else Some Spent) else None)
    (may_not_over setup now e (last_legal setup (start setup) front rest e l))
