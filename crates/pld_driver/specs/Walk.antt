-- What a session writes: the replies to its statements, joined, up to the first `quit`. It is told over any engine: `step` is what the
-- engine says to a statement.
use Rattle.std.specs.Prelude.{ℕ, ◌+◌, Bool, true, false, ◌||◌, List, [], ◌∷◌, ◌++◌, Option, Some, None}
use Rattle.pld_script.specs.declared.statement.Statement.{Statement}
use Rattle.pld_script.specs.declared.statement.Statement.TheVariants.{Quit}
use Rattle.pld_script.specs.Statements.{Placed, statements}

-- an answer: what is written, whether the statement was refused, how many permits it spends, and the state behind it
pub record Answered (S : Type 0) : Type 0 where
  pub reply : List ℕ
  pub refused : Bool
  pub permits : ℕ
  pub next : S

-- A statement has its answer, or it begins a run, and then the answer follows from the record of that run.
pub data Step (S R : Type 0) : Type 0 where
  Says : Answered S → Step S R
  Runs : (R → Answered S) → Step S R

-- A session's statements, with the records of its runs in their order.
pub record Walked (S R : Type 0) : Type 0 where
  -- what is written
  pub out : List ℕ
  -- whether a statement was refused
  pub refused : Bool
  -- how many permits all answers spend
  pub permits : ℕ
  -- the runs that were begun: the state before each, and its record
  pub runs : List (S × R)
  -- the records of no run
  pub left : List R
  -- the state behind all statements; None where a `quit`, or a run without its record, ended the session before
  pub end : Option S
  -- no run lacked its record
  pub whole : Bool

-- all statements were passed
abbrev pub passed : {S R : Type 0} → S → List R → Walked S R
passed state records = record { out = []; refused = false; permits = 0; runs = []; left = records; end = Some state; whole = true }

-- whether this is a `quit`
abbrev pub is_quit : Option Statement → Bool
is_quit (Some Quit) = true
is_quit said = false

-- whether a `quit` stands among these statements
abbrev pub has_quit : List Placed → Bool
has_quit [] = false
has_quit (placed ∷ later) = is_quit placed.said || has_quit later

-- the session ends here: a `quit` comes, or a run has no record, and then it isn't whole
abbrev pub stopped : {S R : Type 0} → Bool → List R → Walked S R
stopped whole records = record { out = []; refused = false; permits = 0; runs = []; left = records; end = None; whole = whole }

-- this answer, and then what comes later
abbrev pub said : {S R : Type 0} → Answered S → Walked S R → Walked S R
said given later = record {
  out = given.reply ++ later.out;
  refused = given.refused || later.refused;
  permits = given.permits + later.permits;
  runs = later.runs;
  left = later.left;
  end = later.end;
  whole = later.whole;
}

-- this run, and then what comes later
abbrev pub ran : {S R : Type 0} → S → R → Walked S R → Walked S R
ran state run later = record { out = later.out; refused = later.refused; permits = later.permits; runs = (state, run) ∷ later.runs; left = later.left; end = later.end; whole = later.whole }

-- A run's answer is taken from the next record; where there is none, nothing more is written.
abbrev pub after : {S R : Type 0} → Step S R → S → List R → (S → List R → Walked S R) → Walked S R
after (Says given) state records later = said given (later given.next records)
after (Runs answer) state [] later = stopped false []
after (Runs answer) state (run ∷ records) later = ran state run (said (answer run) (later (answer run).next records))

-- what a session makes of these statements: what stands behind a `quit` isn't looked at
abbrev pub walk : {S R : Type 0} → (S → Placed → Step S R) → S → List Placed → List R → Walked S R
walk step state [] records = passed state records
walk step state (placed ∷ later) records =
    elim (is_quit placed.said) [
      | true ↦ stopped true records
      | false ↦ after (step state placed) state records (λ next rest. walk step next later rest)
    ]

-- what a session makes of a text; `ended` says that nothing follows it
abbrev pub session : {S R : Type 0} → (S → Placed → Step S R) → S → List ℕ → Bool → List R → Walked S R
session step start bytes ended records = walk step start (statements ended bytes) records

-- the replies to the statements of a text, joined
abbrev pub transcript : {S R : Type 0} → (S → Placed → Step S R) → S → List ℕ → Bool → List R → List ℕ
transcript step start bytes ended records = (session step start bytes ended records).out
