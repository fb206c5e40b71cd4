-- Records of sessions that made one run.
use Rattle.std.proofs.Common.{◌≡◌, ℕ, Bool, true, false, List, [], ◌∷◌, ◌++◌, ◌⊎◌, inl, inr, map, length, arith, All, Some, Result, Ok, Err, refl, sym, ap, ◌∙◌, subst}
use Rattle.std.specs.Prelude.{IfOk, OnErr}
use Rattle.std.proofs.lemmas.List.{append-nil, length-append}
use Rattle.std.proofs.lemmas.List.Elements.{All-head, All-tail, All-nil, All-cons}
use Rattle.pld_script.specs.Statements.{Placed, statements}
use Rattle.pld_io.specs.Outside.{SourceState, SinkState}
use Rattle.pld_script.specs.Chain.{script_of}
use Rattle.pld_driver.specs.declared.engine.Bench.{Bench}
use Rattle.pld_driver.specs.declared.status.Status.{Status}
use Rattle.pld_driver.specs.Outcome.{Moment, moment_of, Outcome}
use Rattle.pld_driver.specs.Walk.{Step, Says, Runs, Walked, after, walk, is_quit, session}
use Rattle.pld_driver.specs.declared.status.Status.TheVariants.{Fine}
use Rattle.pld_driver.proofs.Walks.{pick}
use Rattle.fabric_run.specs.Shown.{shown}
use Rattle.fabric_core.specs.Runs.{RunValue, setup_for, state_of}
use Rattle.fabric_core.specs.declared.fabric.Record.{Record}
use Rattle.pld_runner.specs.Orders.{Plain}
use Rattle.pld_session.specs.States.{State, at_first}
use Rattle.pld_session.specs.Answers.{answer}
use Rattle.pld_reply.specs.Summary.{summary}
use Rattle.pld_session.specs.Runs.{shown_by, FitsRun}
use Rattle.pld_session.specs.Headline.{SessionEnds}
use Rattle.pld_session.specs.Large.{holding_text, holding_nothing, TextSession, IsSummed, IsBroken, IsPlainRun}

-- the records of the runs, and behind them those of no run
abbrev recorded : {S R : Type 0} → Walked S R → List R
recorded w = map (λ run. run.1) w.runs ++ w.left

after_recorded : {S R : Type 0} (x : Step S R) (st : S) (rs : List R) (walked : S → List R → Walked S R) → ((next : S) (rs' : List R) → recorded (walked next rs') ≡ rs')
    → recorded (after x st rs walked) ≡ rs
after_recorded (Says given) st rs walked again = again given.next rs
after_recorded (Runs f) st [] walked again = refl
after_recorded (Runs f) st (r ∷ rs) walked again = ap (λ l. r ∷ l) (again (f r).next rs)

quit_recorded : {S R : Type 0} (b : Bool) (rs : List R) (w : Walked S R) → recorded w ≡ rs → recorded (pick b rs w) ≡ rs
quit_recorded true rs w h = refl
quit_recorded false rs w h = h

-- no record is lost
walks_recorded : {S R : Type 0} (step : S → Placed → Step S R) (st : S) (placed : List Placed) (rs : List R) → recorded (walk step st placed rs) ≡ rs
walks_recorded step st [] rs = refl
walks_recorded step st (p ∷ later) rs =
    quit_recorded (is_quit p.said) rs _ (after_recorded (step st p) st rs (λ next rest. walk step next later rest) (λ next rs'. walks_recorded step next later rs'))

plain_runs : (runs : List (State × Record)) → All (λ run. FitsRun Plain run.0 run.1) runs → All IsPlainRun (map (λ run. run.1) runs)
plain_runs [] h = All-nil IsPlainRun
plain_runs (run ∷ runs) h =
    let Fit : State × Record → Type 0 = λ r. FitsRun Plain r.0 r.1 in
    let fit : FitsRun Plain run.0 run.1 = All-head Fit run runs h in
    All-cons IsPlainRun run.1 (map (λ r. r.1) runs) (record { plain = fit.ordered; over = fit.over }) (plain_runs runs (All-tail Fit run runs h))

-- each record that such a session leaves is that of a whole run of one worker
pub records_plain : (rounds : ℕ) (before after : Moment Record) → SessionEnds Plain rounds before after Fine → All IsPlainRun after.bench.records.items
records_plain rounds before after ends =
    let walked : Walked State Record = session answer (at_first rounds) ends.taken true after.bench.records.items in
    let all : map (λ run. run.1) walked.runs ≡ after.bench.records.items =
    sym (append-nil (map (λ run. run.1) walked.runs)) ∙ ap (λ l. map (λ run. run.1) walked.runs ++ l) (sym ends.told.1.none_left) ∙ walks_recorded answer (at_first rounds) (statements true ends.taken) after.bench.records.items in
    subst (All IsPlainRun) all (plain_runs walked.runs ends.fit)

-- ---- the session of a text

-- a source that holds a text
pub source_holds : (given left text : List ℕ) (ended failed : Bool) (faults : ℕ) → given ≡ [] → left ≡ text → ended ≡ false → failed ≡ false → faults ≡ 0
    → ◌≡◌ {A = SourceState} (record { given = given; ended = ended; failed = failed; remaining = Some left; faults = faults }) (holding_text text)
source_holds given left text ended failed faults g l e f n =
    λ i. record { given = g i; ended = e i; failed = f i; remaining = Some (l i); faults = n i }

-- a sink that holds nothing
pub sink_holds : (put : List ℕ) (failed : Bool) (faults : ℕ) → put ≡ [] → failed ≡ false → faults ≡ 0
    → ◌≡◌ {A = SinkState} (record { put = put; failed = failed; written = Some put; faults = faults }) holding_nothing
sink_holds put failed faults p f n = λ i. record { put = p i; failed = f i; written = Some (p i); faults = n i }

pub text_session : (rounds : ℕ) (text : List ℕ) (st : State) (source source' : SourceState) (sink sink' : SinkState) (before after : Bench Record) (status : Status)
    → source ≡ holding_text text → sink ≡ holding_nothing → st ≡ at_first rounds → Outcome answer (FitsRun Plain) st (moment_of source sink before) (moment_of source' sink' after) status
    → TextSession rounds text before after.permits after.records.items status
text_session rounds text st source source' sink sink' before after status s k h ends = record {
  source = source';
  sink = sink';
  bench = after;
  ends =
      let first : Outcome answer (FitsRun Plain) st (moment_of (holding_text text) sink before) (moment_of source' sink' after) status = subst (λ x. Outcome answer (FitsRun Plain) st (moment_of x sink before) (moment_of source' sink' after) status) s ends in
      let second : Outcome answer (FitsRun Plain) st (moment_of (holding_text text) holding_nothing before) (moment_of source' sink' after) status = subst (λ x. Outcome answer (FitsRun Plain) st (moment_of (holding_text text) x before) (moment_of source' sink' after) status) k first in
      subst (λ x. Outcome answer (FitsRun Plain) x (moment_of (holding_text text) holding_nothing before) (moment_of source' sink' after) status) h second;
  spent = refl;
  left = refl;
}

-- its records are those of whole runs of one worker
pub texts_plain : (rounds : ℕ) (text : List ℕ) (before : Bench Record) (permits : ℕ) (records : List Record) → TextSession rounds text before permits records Fine → All IsPlainRun records
texts_plain rounds text before permits records t =
    subst (All IsPlainRun) t.left (records_plain rounds (moment_of (holding_text text) holding_nothing before) (moment_of t.source t.sink t.bench) t.ends)

-- the same, where the permits and the records are these
told_of : (rounds : ℕ) (text : List ℕ) (before : Bench Record) (permits permits' : ℕ) (records records' : List Record) (status : Status) → TextSession rounds text before permits records status
    → permits' ≡ permits → records ≡ records' → TextSession rounds text before permits' records' status
told_of rounds text before permits permits' records records' status t p r = record { source = t.source; sink = t.sink; bench = t.bench; ends = t.ends; spent = t.spent ∙ sym p; left = t.left ∙ r }

-- the line about one run
abbrev pub IsLine : ℕ → List Record → Bench Record → List ℕ → Type 0
IsLine number records after line = (run : Record) × (records ≡ run ∷ []) × (after.records.items ≡ run ∷ []) × (line ≡ summary number after.permits (shown_by run))

pub line_summed : {V E : Type 0} (bytes : V → List ℕ) (r : Result V E) (rounds number : ℕ) (before after : Bench Record) (permits : ℕ) (records : List Record)
    → TextSession rounds (script_of number) before permits records Fine → after.permits ≡ permits → IfOk r (λ line. IsLine number records after (bytes line)) → IfOk r (λ line. IsSummed rounds number before after (bytes line))
line_summed bytes (Ok line) rounds number before after permits records t p h =
    record { run = h.0; one = h.2; session = told_of rounds (script_of number) before permits after.permits records (h.0 ∷ []) Fine t p h.1; says = h.3 }
line_summed bytes (Err e) rounds number before after permits records t p h = tt

pub line_broken : {V E : Type 0} (r : Result V E) (rounds number : ℕ) (before after : Bench Record) (permits : ℕ) (records : List Record) (status : Status)
    → TextSession rounds (script_of number) before permits records status → after.permits ≡ permits → OnErr r (IsBroken rounds number before after)
line_broken (Ok line) rounds number before after permits records status t p = tt
line_broken (Err e) rounds number before after permits records status t p = inr (status, records, told_of rounds (script_of number) before permits after.permits records records status t p refl)

-- a session of the text that was made
pub text_of_script : (rounds number n : ℕ) (text : List ℕ) (before : Bench Record) (permits : ℕ) (records : List Record) (status : Status) → text ≡ script_of n → n ≡ number
    → TextSession rounds text before permits records status → TextSession rounds (script_of number) before permits records status
text_of_script rounds number n text before permits records status e f t =
    subst (λ x. TextSession rounds (script_of x) before permits records status) f (subst (λ x. TextSession rounds x before permits records status) e t)

-- that was Fine
pub was_fine : (rounds : ℕ) (text : List ℕ) (before : Bench Record) (permits : ℕ) (records : List Record) (status : Status) → status ≡ Fine
    → TextSession rounds text before permits records status → TextSession rounds text before permits records Fine
was_fine rounds text before permits records status e t = subst (TextSession rounds text before permits records) e t

-- ---- the one record

nothing_before : (rest : List Record) (x : Record) → length (rest ++ x ∷ []) ≡ 1 → rest ≡ []
nothing_before [] x e = refl
nothing_before (y ∷ ys) x e = let n = length-append ys (x ∷ []) in absurd (omega (arith, e, n))

-- the line that was put is about the one record, which stays
pub one_run : (number number' permits permits' : ℕ) (old rest new : List Record) (x last : Record) (fabric : RunValue) (start reply : List ℕ) → old ≡ rest ++ x ∷ [] → length old ≡ 1 → new ≡ rest ++ last ∷ []
    → fabric.plan ≡ x.plan → fabric.journal ≡ x.journal → last.plan ≡ fabric.plan → last.journal ≡ fabric.journal → number' ≡ number → permits' ≡ permits → start ≡ []
    → reply ≡ start ++ summary number' permits' (shown (setup_for fabric) (state_of fabric))
    → (run : Record) × (old ≡ run ∷ []) × (new ≡ run ∷ []) × (reply ≡ summary number permits (shown_by run))
one_run number number' permits permits' old rest new x last fabric start reply o one n p j lp lj same spent s says =
    let none : rest ≡ [] = nothing_before rest x (ap length (sym o) ∙ one) in
    let is : last ≡ x = λ i. record { plan = (lp ∙ p) i; journal = (lj ∙ j) i } in (
      x,
      o ∙ ap (λ l. l ++ x ∷ []) none,
      n ∙ ap (λ l. l ++ last ∷ []) none ∙ ap (λ r. r ∷ []) is,
      says ∙ ap (λ l. l ++ summary number' permits' (shown (setup_for fabric) (state_of fabric))) s
          ∙ (λ i. summary (same i) (spent i) (shown_by (record { plan = p i; journal = j i }))),
    )
