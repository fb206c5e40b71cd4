-- The replies to a text are the same, whatever the records of its runs.
use Rattle.std.proofs.Common.{◌≡◌, ℕ, Bool, true, false, List, [], ◌∷◌, ◌++◌, Option, Some, None, refl, sym, ap, ◌∙◌, subst}
use Rattle.std.proofs.lemmas.List.Elements.{All-head, All-tail}
use Rattle.std.specs.Prelude.{IsSome, nat_lt, if◌then◌else◌}
use Rattle.fabric_run.specs.declared.entry.Entry.{Entry}
use Rattle.fabric_run.specs.Plan.{PlanValue}
use Rattle.fabric_run.specs.Replay.{outcome, replay, IsPlain}
use Rattle.fabric_run.specs.Trees.{tree_setup}
use Rattle.pld_script.specs.declared.statement.Statement.{Statement}
use Rattle.pld_script.specs.declared.statement.Statement.TheVariants as says
use Rattle.pld_script.specs.Statements.{Placed}
use Rattle.pld_driver.specs.Walk.{Answered, Step, Says, Runs, Walked, after, walk, is_quit}
use Rattle.pld_driver.proofs.Walks.{pick}
use Rattle.fabric_core.specs.declared.fabric.Record.{Record}
use Rattle.pld_runner.specs.Orders.{Plain}
use Rattle.pld_session.specs.States.{State}
use Rattle.pld_reply.specs.declared.refusals.Refusal.TheVariants as refusal
use Rattle.pld_session.specs.Answers.{answer, answer_to, refuses, ran, runs_built, most_runs}
use Rattle.pld_session.specs.Runs.{FitsRun}
use Rattle.pld_session.specs.Laws.{IsRecorded}

-- a plan has one run of `plain`
abbrev pub OnePlain : Type 0
OnePlain = (plan : PlanValue) (journal other : List Entry) → IsPlain (tree_setup plan) journal → IsSome (outcome (tree_setup plan) (replay (tree_setup plan) journal))
    → IsPlain (tree_setup plan) other → IsSome (outcome (tree_setup plan) (replay (tree_setup plan) other)) → journal ≡ other

-- whatever records fit, the answer is the same
abbrev Agrees : State → Step State Record → Type 0
Agrees st (Says given) = Unit {0}
Agrees st (Runs f) = (r s : Record) → FitsRun Plain st r → FitsRun Plain st s → f r ≡ f s

-- a record that fits is the only one
one_record : (one : OnePlain) (st : State) (r s : Record) → FitsRun Plain st r → FitsRun Plain st s → r ≡ s
one_record one st r s f g =
    let same : s.plan ≡ r.plan = g.plan ∙ sym f.plan in
    let journals : r.journal ≡ s.journal = one r.plan r.journal s.journal f.ordered f.over
    (subst (λ p. IsPlain (tree_setup p) s.journal) same g.ordered) (subst (λ p. IsSome (outcome (tree_setup p) (replay (tree_setup p) s.journal))) same g.over) in
    let P : PlanValue → Record = λ p. record { plan = p; journal = r.journal } in
    let J : List Entry → Record = λ j. record { plan = s.plan; journal = j } in
    ap P (sym same) ∙ ap J journals

run_agrees : (st : State) (number : ℕ) → OnePlain → Agrees st (Runs (ran st))
run_agrees st number one = λ r s fit fit'. ap (ran st) (one_record one st r s fit fit')

built_agrees : (st : State) (number : ℕ) (b : Bool) → OnePlain → Agrees st (if b then Runs (ran st) else Says (refuses st number refusal.TooManyRuns))
built_agrees st number true one = run_agrees st number one
built_agrees st number false one = tt

runs_agrees : (st : State) (number : ℕ) (b : Bool) → OnePlain → Agrees st (if b then runs_built st number else Says (refuses st number refusal.NotBuilt))
runs_agrees st number true one = built_agrees st number (nat_lt st.runs most_runs) one
runs_agrees st number false one = tt

answer_agrees : (st : State) (number : ℕ) (said : Option Statement) → OnePlain → Agrees st (answer_to st number said)
answer_agrees st number None one = tt
answer_agrees st number (Some (says.Edit edit)) one = tt
answer_agrees st number (Some says.Build) one = tt
answer_agrees st number (Some says.Run) one = runs_agrees st number st.built one
answer_agrees st number (Some (says.DumpImage name)) one = tt
answer_agrees st number (Some says.DumpTables) one = tt
answer_agrees st number (Some says.Stats) one = tt
answer_agrees st number (Some says.Quit) one = tt

-- one answer, and then the others

step_agrees : (st : State) (x : Step State Record) (rs ss : List Record) (walked : State → List Record → Walked State Record) → Agrees st x
    → ((next : State) (rs' ss' : List Record) → IsRecorded (walked next rs') → IsRecorded (walked next ss') → (walked next rs').out ≡ (walked next ss').out)
    → IsRecorded (after x st rs walked) → IsRecorded (after x st ss walked) → (after x st rs walked).out ≡ (after x st ss walked).out
step_agrees st (Says given) rs ss walked g again a b =
    ap (λ l. given.reply ++ l) (again given.next rs ss (record { fit = a.fit; used = a.used; whole = a.whole }) (record { fit = b.fit; used = b.used; whole = b.whole }))
step_agrees st (Runs f) [] ss walked g again a b = let w : false ≡ true = a.whole in cc
step_agrees st (Runs f) (r ∷ rs) [] walked g again a b = let w : false ≡ true = b.whole in cc
step_agrees st (Runs f) (r ∷ rs) (s ∷ ss) walked g again a b =
    let Fit : State × Record → Type 0 = λ run. FitsRun Plain run.0 run.1 in
    let e : f r ≡ f s = g r s (All-head Fit (st, r) _ a.fit) (All-head Fit (st, s) _ b.fit) in
    let P : Answered State → Type 0 = λ t. IsRecorded (walked t.next ss) in
    let later : IsRecorded (walked (f r).next rs) = record { fit = All-tail Fit (st, r) _ a.fit; used = a.used; whole = a.whole } in
    let other : IsRecorded (walked (f s).next ss) = record { fit = All-tail Fit (st, s) _ b.fit; used = b.used; whole = b.whole } in
    ap (λ l. (f r).reply ++ l) (again (f r).next rs ss later (subst P (sym e) other))
    ∙ ap (λ t. t.reply ++ (walked t.next ss).out) e

quit_agrees : (b : Bool) (rs ss : List Record) (w v : Walked State Record) → (IsRecorded w → IsRecorded v → w.out ≡ v.out)
    → IsRecorded (pick b rs w) → IsRecorded (pick b ss v) → (pick b rs w).out ≡ (pick b ss v).out
quit_agrees true rs ss w v again a b = refl
quit_agrees false rs ss w v again a b = again a b

pub walks_agree : (one : OnePlain) (st : State) (placed : List Placed) (rs ss : List Record) → IsRecorded (walk answer st placed rs) → IsRecorded (walk answer st placed ss)
    → (walk answer st placed rs).out ≡ (walk answer st placed ss).out
walks_agree one st [] rs ss a b = refl
walks_agree one st (p ∷ later) rs ss a b =
    quit_agrees (is_quit p.said) rs ss _ _
    (step_agrees st (answer st p) rs ss (λ next rest. walk answer next later rest) (answer_agrees st p.number p.said one)
    (λ next rs' ss' a' b'. walks_agree one next later rs' ss' a' b')) a b
