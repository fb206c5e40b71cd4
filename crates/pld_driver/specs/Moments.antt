-- How far a session has come.
use Rattle.std.specs.Prelude.{◌≡◌, ◌⊎◌, ◌+◌, ◌*◌, ◌<◌, ◌≤◌, ℕ, Bool, true, false, ◌||◌, List, [], ◌∷◌, ◌++◌, length, drop, All, Option, Some, None}
use Rattle.pld_io.specs.Outside.{SinkState, Accepts, AcceptsUntilFault}
use Rattle.pld_script.specs.declared.statement.Statement.TheVariants.{Quit}
use Rattle.pld_script.specs.declared.scan.Scan.{Scan}
use Rattle.pld_script.specs.declared.next.Next.{Next}
use Rattle.pld_script.specs.declared.next.Next.TheVariants as next
use Rattle.pld_script.specs.Statements.{Placed, statements_at, MayFollow, HoldsNone, IsFirst, Scanned}
use Rattle.pld_driver.specs.declared.engine.Bench.{Bench}
use Rattle.pld_driver.specs.declared.answers.Stop.{Stop}
use Rattle.pld_driver.specs.declared.answers.Stop.TheVariants.{WriteFault, NoMemory}
use Rattle.pld_driver.specs.declared.answers.Flow.{Flow}
use Rattle.pld_driver.specs.declared.answers.Flow.TheVariants as flow
use Rattle.pld_driver.specs.declared.status.Status.{Status}
use Rattle.pld_driver.specs.declared.status.Status.TheVariants as status
use Rattle.pld_driver.specs.declared.answers.Place.{Place}
use Rattle.pld_driver.specs.declared.answers.Given.{Given}
use Rattle.pld_driver.specs.Walk.{Answered, Step, Says, Runs, walk, is_quit}

-- This answer was given, and its permits were spent.
pub record IsAnswer {S : Type 0} (told : Answered S) (spent_old spent_new : ℕ) (reply : List ℕ) (refused : Bool) (next : S) : Type 0 where
  pub says : reply ≡ told.reply
  pub flag : refused ≡ told.refused
  pub state : next ≡ told.next
  pub spent : spent_new ≡ spent_old + told.permits

-- A run has left its record at the end.
pub record Leaves {R : Type 0} (Fits : R → Type 0) (old new : List R) (run : R) : Type 0 where
  pub fit : Fits run
  pub last : new ≡ old ++ run ∷ []

-- The answer was given, and a run has left its record.
abbrev pub Took : {S R : Type 0} → Step S R → (R → Type 0) → Bench R → Bench R → List ℕ → Bool → S → Type 0
Took {R = R} (Says told) Fits old new reply refused next = IsAnswer told old.permits new.permits reply refused next × (new.records.items ≡ old.records.items)
Took {R = R} (Runs answer) Fits old new reply refused next =
    (run : R) × Leaves Fits old.records.items new.records.items run × IsAnswer (answer run) old.permits new.permits reply refused next

-- No answer was given: a part of its permits may be spent.
abbrev pub Spends : ℕ → ℕ → ℕ → Type 0
Spends old new permits = (old ≤ new) × (new ≤ old + permits)

-- No answer was given, and no record was left.
abbrev pub Broke : {S R : Type 0} → Step S R → Bench R → Bench R → Type 0
Broke {R = R} (Says told) old new = (new.records.items ≡ old.records.items) × Spends old.permits new.permits told.permits
Broke {R = R} (Runs answer) old new = (new.records.items ≡ old.records.items) × (new.permits ≡ old.permits)

-- what a session holds at a moment: the state, what it leaves, and the sink
pub record Held (S R : Type 0) : Type 0 where
  pub state : S
  pub bench : Bench R
  pub sink : SinkState

-- A moment of a session, with the number of the next line, how many bytes were used, and whether a statement was refused.
pub record Point (S R : Type 0) : Type 0 where
  pub held : Held S R
  pub number : ℕ
  pub start : ℕ
  pub refused : Bool

-- Between two moments all these statements were answered, which stand in the text between them, whatever follows it.
pub record Goes {S R : Type 0} (step : S → Placed → Step S R) (Fits : S → R → Type 0) (ended : Bool) (text : List ℕ) (from to : Point S R) : Type 0 where
  pub done : List Placed
  pub added : List R
  pub in_order : from.start ≤ to.start
  pub within : to.start ≤ length text
  pub lines : to.number + from.start ≤ from.number + to.start
  pub cut : (e : Bool) (more : List ℕ) → MayFollow ended e more →
      statements_at e from.number (drop from.start text ++ more) ≡ done ++ statements_at e to.number (drop to.start text ++ more)
  pub records : to.held.bench.records.items ≡ from.held.bench.records.items ++ added
  pub permits : to.held.bench.permits ≡ from.held.bench.permits + (walk step from.held.state done added).permits
  pub left : (walk step from.held.state done added).left ≡ []
  pub end : (walk step from.held.state done added).end ≡ Some to.held.state
  pub fit : All (λ run. Fits run.0 run.1) (walk step from.held.state done added).runs
  pub put : Accepts from.held.sink to.held.sink (walk step from.held.state done added).out
  pub refused : to.refused ≡ (from.refused || (walk step from.held.state done added).refused)

-- This statement comes next, whatever follows the text.
abbrev pub Comes : {S R : Type 0} → Bool → List ℕ → Point S R → Placed → Type 0
Comes ended text at placed = (e : Bool) (more : List ℕ) → MayFollow ended e more →
    (later : List Placed) × (statements_at e at.number (drop at.start text ++ more) ≡ placed ∷ later)

-- A statement was answered.
pub record Answers {S R : Type 0} (step : S → Placed → Step S R) (Fits : S → R → Type 0) (placed : Placed) (from to : Held S R) (refused : Bool) : Type 0 where
  pub reply : List ℕ
  pub took : Took (step from.state placed) (Fits from.state) from.bench to.bench reply refused to.state
  pub put : Accepts from.sink to.sink reply

-- The answer was given, a part of the reply that isn't all was written, and then the sink failed.
pub record Cuts {S R : Type 0} (step : S → Placed → Step S R) (Fits : S → R → Type 0) (placed : Placed) (from to : Held S R) : Type 0 where
  pub part : List ℕ
  pub missing : List ℕ
  pub refused : Bool
  pub some : 0 < length missing
  pub took : Took (step from.state placed) (Fits from.state) from.bench to.bench (part ++ missing) refused to.state
  pub put : AcceptsUntilFault from.sink to.sink part

-- No answer was given, and nothing was written.
pub record Breaks {S R : Type 0} (step : S → Placed → Step S R) (placed : Placed) (from to : Held S R) : Type 0 where
  pub broke : Broke (step from.state placed) from.bench to.bench
  pub put : Accepts from.sink to.sink []

-- why the answer to a statement stops
abbrev pub Stops : {S R : Type 0} → (S → Placed → Step S R) → (S → R → Type 0) → Placed → Held S R → Held S R → Stop → Type 0
Stops step Fits placed from to WriteFault = Cuts step Fits placed from to
Stops step Fits placed from to NoMemory = Breaks step placed from to

-- All statements of a text from a moment on were answered.
pub record AnswersAll {S R : Type 0} (step : S → Placed → Step S R) (Fits : S → R → Type 0) (ended : Bool) (text : List ℕ) (from to : Point S R) : Type 0 where
  pub goes : Goes step Fits ended text from to
  pub none : HoldsNone ended (drop to.start text)

-- The statements before a `quit` were answered.
pub record QuitsAt {S R : Type 0} (step : S → Placed → Step S R) (Fits : S → R → Type 0) (ended : Bool) (text : List ℕ) (from to : Point S R) : Type 0 where
  pub number : ℕ
  pub goes : Goes step Fits ended text from to
  pub comes : Comes ended text to (record { number = number; said = Some Quit })

-- The statements before one that is no `quit` were answered, and this holds of that one.
pub record Reaches {S R : Type 0} (step : S → Placed → Step S R) (Fits : S → R → Type 0) (ended : Bool) (text : List ℕ) (from : Point S R) (Of : Placed → Held S R → Type 0) : Type 0 where
  pub at : Point S R
  pub placed : Placed
  pub goes : Goes step Fits ended text from at
  pub comes : Comes ended text at placed
  pub no_quit : is_quit placed.said ≡ false
  pub holds : Of placed at.held

-- how far the answers to the statements of a text have come
abbrev pub Ends : {S R : Type 0} → (S → Placed → Step S R) → (S → R → Type 0) → Bool → List ℕ → Point S R → Point S R → Flow → Type 0
Ends step Fits ended text from to flow.Open = AnswersAll step Fits ended text from to
Ends step Fits ended text from to flow.Quits = QuitsAt step Fits ended text from to
Ends step Fits ended text from to (flow.Stopped WriteFault) = Reaches step Fits ended text from (λ placed held. Cuts step Fits placed held to.held)
Ends step Fits ended text from to (flow.Stopped NoMemory) = Goes step Fits ended text from to ⊎ Reaches step Fits ended text from (λ placed held. Breaks step placed held to.held)

-- whether the answers may go on
abbrev pub is_open : Flow → Bool
is_open flow.Open = true
is_open flow.Quits = false
is_open (flow.Stopped reason) = false

-- the status of a session whose answers were all given
abbrev pub done_status : Bool → Status
done_status true = status.SomeRefused
done_status false = status.Fine

-- the status of a session that ends there
abbrev pub status_of : Flow → Bool → Status
status_of flow.Open refused = done_status refused
status_of flow.Quits refused = done_status refused
status_of (flow.Stopped WriteFault) refused = status.WriteFault
status_of (flow.Stopped NoMemory) refused = status.NoMemory

-- what a session holds
abbrev pub held_of : {S R : Type 0} → S → Bench R → SinkState → Held S R
held_of state bench sink = record { state = state; bench = bench; sink = sink }

-- the moment at which a session stands in its text
abbrev pub point_of : {S R : Type 0} → S → Bench R → SinkState → Place → Point S R
point_of state bench sink place = record {
  held = held_of state bench sink;
  number = place.number;
  start = place.start;
  refused = place.refused;
}

-- A session stands in these bytes: each statement used a byte at least, and spent 64 permits at most; and so far were the bytes
-- behind them looked at.
pub record IsReady (bytes : List ℕ) (place : Place) (permits : ℕ) : Type 0 where
  pub within : place.start ≤ length bytes
  pub lines : place.number ≤ place.start + 1
  pub few : permits ≤ 64 * place.start
  pub scanned : Scanned (drop place.start bytes) place.scan.line place.scan.seen place.scan.in_text

-- the first statement of these bytes, or none, and how far they were looked at
abbrev pub IsGiven : Bool → List ℕ → Scan → Option Given → Type 0
IsGiven ended bytes scan None = HoldsNone ended bytes × Scanned bytes scan.line scan.seen scan.in_text
IsGiven ended bytes scan (Some given) = IsFirst ended bytes given.said given.blank given.lines given.used

-- what is told of a next statement
abbrev pub given_of : Next → Option Given
given_of (next.Statement found) = Some (record { said = Some found.statement; blank = found.blank; lines = found.lines; used = found.used })
given_of (next.BadLine skipped) = Some (record { said = None; blank = skipped.blank; lines = skipped.lines; used = skipped.used })
given_of next.More = None
given_of next.End = None
