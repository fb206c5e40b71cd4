-- The run with one entry more.
use Rattle.std.proofs.Common.{◌≡◌, ℕ, ◌+◌, ◌<◌, ◌≤◌, Bool, true, false, not, List, [], ◌∷◌, ◌++◌, length, map, refl, ap, sym, ◌∙◌, arith, Option, Some, None, subst}
use Rattle.std.specs.Prelude.{◌&&◌, ◌||◌, if◌then◌else◌, nat_lt}
use Rattle.std.proofs.lemmas.Bool.Decides.{nat_tests}
use Rattle.std.proofs.lemmas.List.{length-map}
use Rattle.net_tree.specs.Links.{Links}
use Rattle.pld_image.specs.Cores.{core_of}
use Rattle.fabric_run.specs.declared.entry.Entry.{Entry}
use Rattle.fabric_run.specs.declared.entry.Entry.TheVariants.{Take, Net}
use Rattle.fabric_run.specs.Entries.{stored, entry_of, IsEntry}
use Rattle.fabric_run.specs.Plan.{PlanValue}
use Rattle.fabric_run.specs.World.{Setup, State, changes, out_to, is_configured, all_to, start}
use Rattle.fabric_run.specs.Replay.{may, after, replay, goes_on, all_served, is_ready, is_served, first_to}
use Rattle.fabric_keeps.proofs.Base.{placed_here}
use Rattle.fabric_keeps.proofs.Legal.{run_more}
use Rattle.fabric_run.specs.Trees.{tree_setup}
use Rattle.fabric_core.specs.declared.page.Page.{Page}
use Rattle.fabric_core.specs.declared.board.Board.{Board}
use Rattle.fabric_core.specs.Boards.{Shows, HaveRoom}
use Rattle.fabric_core.specs.Runs.{RunValue, noted, room}
use Rattle.fabric_core.specs.Holding.{Holds}
use Rattle.fabric_core.specs.Kept.{IsKept}
use Rattle.fabric_core.proofs.Storing.{spelled_push, stored_push}
use Rattle.fabric_core.proofs.Keeping.{next_kept, next_fits}
use Rattle.fabric_core.proofs.Making.{Takable}

abbrev pub run_of : PlanValue → List ℕ → RunValue
run_of plan words = record { plan = plan; journal = map entry_of words }

-- what the struct's invariant says
abbrev pub Inside : PlanValue → List ℕ → Board → ℕ → ℕ → Type 0
Inside plan words b cap configs =
    IsKept plan (map entry_of words) b × (map stored (map entry_of words) ≡ words) × (room plan ≤ cap) × (configs ≡ length (changes (tree_setup plan)))

module _ (plan : PlanValue) (words words' : List ℕ) (b b' : Board) (cap cap' configs : ℕ) (e : Entry) (h : Inside plan words b cap configs) (fits : IsEntry e)
    (m : may (tree_setup plan) (replay (tree_setup plan) (map entry_of words)) e ≡ true) where
  -- the journal has room for the word
  pub has_room : length words < cap
  has_room = omega (arith, next_fits plan (map entry_of words) b h.0 e m, h.2, length-map words entry_of)

  module _ (is : words' ≡ words ++ stored e ∷ []) where
    pub noted_view : run_of plan words' ≡ noted (run_of plan words) e
    noted_view = ap (λ (j : List Entry). let n : RunValue = record { plan = plan; journal = j } in n) (spelled_push words words' e fits is)

    pub next_inside : cap ≤ cap' → Shows (tree_setup plan) (after (tree_setup plan) (replay (tree_setup plan) (map entry_of words)) e) b' → HaveRoom (plan.rounds + 1) b' → Inside plan words' b' cap' configs
    next_inside more s r = (
      subst (λ (j : List Entry). IsKept plan j b') (sym (spelled_push words words' e fits is)) (next_kept plan (map entry_of words) b h.0 e b' m s r),
      stored_push words words' e fits is h.1,
      omega (arith, h.2, more),
      h.3,
    )

-- what a seat holds after its Take
pub taken_holds : (plan : PlanValue) (journal : List Entry) (b : Board) (k : IsKept plan journal b) (seat leaf : ℕ) (page : Page) (t : Takable plan journal b k leaf) → page.leaf ≡ leaf → core_of page.core ≡ t.page.core
    → Holds (noted (record { plan = plan; journal = journal }) (Take seat leaf)) seat page
taken_holds plan journal b k seat leaf page t is core =
    let setup = tree_setup plan in
    let now = replay (tree_setup plan) journal in
    let more : replay setup (journal ++ Take seat leaf ∷ []) ≡ after setup now (Take seat leaf) = run_more setup (start setup) journal (Take seat leaf) in
    record {
      state = record t.page { holder = Some seat };
      there = ap (replay setup (journal ++ Take seat leaf ∷ [])).pages is ∙ ap (λ (x : State Links). x.pages leaf) more ∙ placed_here now.pages leaf (out_to seat (now.pages leaf)) ∙ ap (out_to seat) t.there;
      held = refl;
      core = core;
      inside = omega (arith, t.inside, is);
    }

-- When entries are legal.

and_false : (a b : Bool) → b ≡ false → a && b ≡ false
and_false true b e = e
and_false false b e = refl

false_and : (a b : Bool) → a ≡ false → a && b ≡ false
false_and true b e = absurd (let x : true ≡ false = e in cc)
false_and false b e = refl

and_true : (a b : Bool) → b ≡ true → a ≡ a && b
and_true true b e = sym e
and_true false b e = refl

true_and : (a b : Bool) → a ≡ true → b ≡ true → a && b ≡ true
true_and true b e f = f
true_and false b e f = absurd (let x : false ≡ true = e in cc)

module _ (setup : Setup Links) (st : State Links) (seat leaf : ℕ) where
  pub take_early : is_configured setup st ≡ false → false ≡ may setup st (Take seat leaf)
  take_early e = sym (and_false (goes_on setup st) _ (and_false (nat_lt leaf setup.size) _ (false_and (is_configured setup st) _ e)))

  pub take_busy : (leaf < setup.size → is_ready (st.pages leaf) ≡ false) → false ≡ may setup st (Take seat leaf)
  take_busy h = by (nat_lt leaf setup.size) refl
    where
      by : (t : Bool) → nat_lt leaf setup.size ≡ t → false ≡ may setup st (Take seat leaf)
      by true e = sym (and_false (goes_on setup st) _ (and_false (nat_lt leaf setup.size) _ (and_false (is_configured setup st) _ (h (grind (arith, nat_tests))))))
      by false e = sym (and_false (goes_on setup st) _ (false_and (nat_lt leaf setup.size) _ e))

  pub take_goes : is_configured setup st ≡ true → leaf < setup.size → is_ready (st.pages leaf) ≡ true → goes_on setup st ≡ may setup st (Take seat leaf)
  take_goes c l r = and_true (goes_on setup st) _ (true_and (nat_lt leaf setup.size) _ (let t : nat_lt leaf setup.size ≡ true = grind (arith, nat_tests) in t) (true_and (is_configured setup st) _ c r))

  pub net_late : all_served setup st ≡ false → false ≡ may setup st (Net seat)
  net_late e = sym (and_false (goes_on setup st) (all_served setup st) e)

  pub net_goes : all_served setup st ≡ true → goes_on setup st ≡ may setup st (Net seat)
  net_goes e = and_true (goes_on setup st) (all_served setup st) e

module _ (setup : Setup Links) (st : State Links) where
  pub served_early : is_configured setup st ≡ false → true ≡ all_served setup st
  served_early e = sym (ap (λ (b : Bool). not b || all_to setup.size (λ i. is_served (st.pages i))) e)

  pub served_is : is_configured setup st ≡ true → all_to setup.size (λ i. is_served (st.pages i)) ≡ all_served setup st
  served_is e = sym (ap (λ (b : Bool). not b || all_to setup.size (λ i. is_served (st.pages i))) e)

  abbrev pub due : Bool → Option ℕ
  due b = if b then first_to setup.size (λ i. not (is_served (st.pages i))) else None

  pub due_is : (b : Bool) → is_configured setup st ≡ b → due b ≡ due (is_configured setup st)
  due_is b e = ap due (sym e)
