-- Journals by seats: what the entries of other seats leave, and where a journal ends.
use Rattle.std.proofs.Common.{◌≡◌, ◌≢◌, ℕ, zero, suc, ◌/◌, ◌%◌, ◌<◌, Bool, true, false, not, List, [], ◌∷◌, ◌++◌, map, length, Option, Some, None, ◌==◌, if◌then◌else◌, refl, ap, sym, ◌∙◌, subst, eq-eqb, arith}
use Rattle.std.specs.Prelude.{take, nat_lt, is_some, is_none, IsSome}
use Rattle.std.proofs.lemmas.List.{map-append}
use Rattle.net_tree.specs.Links.{Links}
use Rattle.fabric_lock.specs.History.{seat_of, entries_of}
use Rattle.fabric_run.specs.declared.entry.Entry.{Entry}
use Rattle.fabric_run.specs.declared.entry.Entry.TheVariants.{Take, Give, Net}
use Rattle.fabric_run.specs.declared.row.Outcome.TheVariants.{Done, Stalled, Spent}
use Rattle.fabric_run.specs.Entries.{entry_of, stored, IsEntry}
use Rattle.fabric_run.specs.Plan.{PlanValue}
use Rattle.fabric_run.specs.World.{Setup, State, PageState, start}
use Rattle.fabric_run.specs.Replay.{after, run, replay, may, goes_on, is_over, is_still, all_ended, is_home, outcome, IsLegalFrom, IsLegal}
use Rattle.fabric_run.specs.Trees.{tree_setup}
use Rattle.fabric_keeps.specs.Holding.{IsOutWith}
use Rattle.fabric_keeps.proofs.Base.{both}
use Rattle.fabric_keeps.proofs.PagesOut.{entry_holds}
use Rattle.fabric_pages.proofs.Counting.{Makes, makes}
use Rattle.fabric_pages.proofs.Counting as counting
use Rattle.fabric_core.specs.declared.page.Page.{Page}
use Rattle.fabric_core.specs.Holding.{Holds}
use Rattle.fabric_core.proofs.Stillness.{not_all, none_while_out}
use Rattle.page_threads.specs.Work.{run_by}

-- the seat of an entry
abbrev pub seat_in : Entry → ℕ
seat_in (Take seat leaf) = seat
seat_in (Give seat leaf) = seat
seat_in (Net seat) = seat

pub stored_seat : (e : Entry) → IsEntry e → seat_of (stored e) ≡ seat_in e
stored_seat (Take seat leaf) h = (let a : seat < 16 = h.0 in let b : leaf < 256 = h.1 in omega arith)
stored_seat (Give seat leaf) h = (let a : seat < 16 = h.0 in let b : leaf < 256 = h.1 in omega arith)
stored_seat (Net seat) h = (let a : seat < 16 = h in omega arith)

kind_seat : (n : ℕ) (a b : Bool) → seat_in (if a then Take (n / 256 % 16) (n % 256) else (if b then Give (n / 256 % 16) (n % 256) else Net (n / 256 % 16))) ≡ n / 256 % 16
kind_seat n true b = refl
kind_seat n false true = refl
kind_seat n false false = refl

entry_seat : (n : ℕ) → seat_in (entry_of n) ≡ seat_of n
entry_seat n = kind_seat n (n / 4096 == 0) (n / 4096 == 1)

run_append : (setup : Setup Links) (st : State Links) (xs ys : List Entry) → run setup st (xs ++ ys) ≡ run setup (run setup st xs) ys
run_append setup st [] ys = refl
run_append setup st (x ∷ xs) ys = run_append setup (after setup st x) xs ys

legal_rest : (setup : Setup Links) (st : State Links) (xs ys : List Entry) → IsLegalFrom setup st (xs ++ ys) → IsLegalFrom setup (run setup st xs) ys
legal_rest setup st [] ys h = h
legal_rest setup st (x ∷ xs) ys h = legal_rest setup (after setup st x) xs ys h.1

-- A page that is out.

other_here : (seat e : ℕ) (es : List ℕ) (t : Bool) → (seat_of e == seat) ≡ t → (if t then e ∷ entries_of seat es else entries_of seat es) ≡ [] → (seat_of e ≢ seat) × (entries_of seat es ≡ [])
other_here seat e es true is h = let no : ⊥ = cc in absurd no
other_here seat e es false is h = ((λ (same : seat_of e ≡ seat). let t : (seat_of e == seat) ≡ true = eq-eqb (seat_of e) seat same in let x : true ≡ false = sym t ∙ is in let no : ⊥ = cc in no), h)

not_its : (e : Entry) (seat leaf : ℕ) → seat_in e ≢ seat → e ≢ Give seat leaf
not_its e seat leaf n is = n (ap seat_in is)

held_through : (setup : Setup Links) (st : State Links) (leaf seat : ℕ) (p : PageState) (ws : List ℕ) → entries_of seat ws ≡ [] → IsLegalFrom setup st (map entry_of ws) → IsOutWith st seat leaf p → IsOutWith (run setup st (map entry_of ws)) seat leaf p
held_through setup st leaf seat p [] none legal h = h
held_through setup st leaf seat p (w ∷ ws) none legal h =
    let o = other_here seat w ws (seat_of w == seat) refl none in
    held_through setup (after setup st (entry_of w)) leaf seat p ws o.1 legal.1
    (entry_holds setup st (entry_of w) seat leaf p legal.0 (not_its (entry_of w) seat leaf (λ e. o.0 (sym (entry_seat w) ∙ e))) h)

-- between a seat's Take of a page and its Give, no entry of another seat changes that page
pub stays_held : (plan : PlanValue) (seen rest : List ℕ) (seat : ℕ) (page : Page) → IsLegal (tree_setup plan) (map entry_of (seen ++ rest)) → entries_of seat rest ≡ [] → Holds (run_by plan seen) seat page → Holds (run_by plan (seen ++ rest)) seat page
stays_held plan seen rest seat page legal none h =
    let setup = tree_setup plan in
    let split : map entry_of (seen ++ rest) ≡ map entry_of seen ++ map entry_of rest = map-append entry_of seen rest in
    let more = legal_rest setup (start setup) (map entry_of seen) (map entry_of rest) (subst (IsLegal setup) split legal) in
    let out : IsOutWith (replay setup (map entry_of seen)) seat page.leaf h.state = record { page = h.state; there = h.there; held = h.held; core = refl; steps = refl; end = refl } in
    let now : IsOutWith (run setup (replay setup (map entry_of seen)) (map entry_of rest)) seat page.leaf h.state = held_through setup (replay setup (map entry_of seen)) page.leaf seat h.state rest none more out in
    let same : replay setup (map entry_of (seen ++ rest)) ≡ run setup (replay setup (map entry_of seen)) (map entry_of rest) = ap (run setup (start setup)) split ∙ run_append setup (start setup) (map entry_of seen) (map entry_of rest) in
    record {
      state = now.page;
      there = ap (λ (x : State Links). x.pages page.leaf) same ∙ now.there;
      held = now.held;
      core = h.core ∙ sym now.core;
      inside = h.inside;
    }

-- An entry is legal in no state that is over.

not_of : (b : Bool) → not b ≡ true → b ≡ false
not_of true e = let no : ⊥ = cc in absurd no
not_of false e = refl

module _ (setup : Setup Links) where
  going_on : (st : State Links) → goes_on setup st ≡ true → outcome setup st ≡ None
  going_on st m =
      ap (λ (b : Bool). if b then (if is_still setup st then (if all_ended setup st then Some Done else Some Stalled) else Some Spent) else None)
      (not_of (is_over setup st) (both (nat_lt st.rounds setup.allowed) _ m).1)

  giving : (st : State Links) (e : Entry) (seat leaf : ℕ) → e ≡ Give seat leaf → Makes setup st e → outcome setup st ≡ None
  giving st e seat leaf is (counting.Takes seat' leaf' p r l there home few going conf) = let no : ⊥ = cc in absurd no
  giving st e seat leaf is (counting.Gives seat' leaf' p l there held) =
      none_while_out setup st (not_all setup.size leaf' (λ i. is_home (st.pages i)) l (ap is_home there ∙ ap is_none held))
  giving st e seat leaf is (counting.Nets seat' r) = let no : ⊥ = cc in absurd no

  not_over : (st : State Links) (e : Entry) → may setup st e ≡ true → outcome setup st ≡ None
  not_over st (Take s at) m = going_on st (both (goes_on setup st) _ m).0
  not_over st (Give s at) m = giving st (Give s at) s at refl (makes setup st (Give s at) m)
  not_over st (Net s) m = going_on st (both (goes_on setup st) _ m).0

  before_end : (st : State Links) (es : List Entry) → IsLegalFrom setup st es → (k : ℕ) → k < length es → outcome setup (run setup st (take k es)) ≡ None
  before_end st [] legal k small = let no : ⊥ = omega (arith, small) in absurd no
  before_end st (e ∷ es) legal zero small = not_over st e legal.0
  before_end st (e ∷ es) legal (suc k) small = before_end (after setup st e) es legal.1 k (omega (arith, small))

  -- a legal journal has no state before its end that is over
  pub none_before : (journal : List Entry) → IsLegal setup journal → (k : ℕ) → k < length journal → outcome setup (replay setup (take k journal)) ≡ None
  none_before journal legal k small = before_end (start setup) journal legal k small

  not_both : {A : Type 0} (o : Option A) → IsSome o → o ≡ None → ⊥
  not_both o some none = (let no : is_some o ≡ false = ap is_some none in cc)

  nothing_from : (st : State Links) (es : List Entry) → IsLegalFrom setup st es → IsSome (outcome setup st) → es ≡ []
  nothing_from st [] legal over = refl
  nothing_from st (e ∷ es) legal over = absurd (not_both (outcome setup st) over (not_over st e legal.0))

  -- no entry is legal behind one with which the run is over
  pub nothing_after : (first rest : List Entry) → IsLegal setup (first ++ rest) → IsSome (outcome setup (replay setup first)) → rest ≡ []
  nothing_after first rest legal over = nothing_from (replay setup first) rest (legal_rest setup (start setup) first rest legal) over
