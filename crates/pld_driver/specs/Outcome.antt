-- What a session has done when it ends.
use Rattle.std.specs.Prelude.{◌≡◌, ◌⊎◌, ◌<◌, ◌≤◌, ℕ, true, false, List, [], ◌∷◌, ◌++◌, length, take, All, IsSome}
use Rattle.pld_io.specs.Outside.{SourceState, SinkState, Gives, GivesUntilFault, Accepts, AcceptsUntilFault}
use Rattle.pld_script.specs.Statements.{Placed, statements}
use Rattle.pld_driver.specs.Reading.{limit, IsEnded}
use Rattle.pld_driver.specs.Walk.{Step, Walked, walk, session, transcript, has_quit}
use Rattle.pld_driver.specs.declared.engine.Bench.{Bench}
use Rattle.pld_driver.specs.declared.status.Status.{Status}
use Rattle.pld_driver.specs.declared.status.Status.TheVariants.{Fine, SomeRefused, Usage, ReadFault, WriteFault, NoMemory, TooLong}

-- what stands around a session at a moment: its source, its sink, and what it leaves
pub record Moment (R : Type 0) : Type 0 where
  pub source : SourceState
  pub sink : SinkState
  pub bench : Bench R

abbrev pub moment_of : {R : Type 0} → SourceState → SinkState → Bench R → Moment R
moment_of source sink bench = record { source = source; sink = sink; bench = bench }

-- A front of this was written, and the sink didn't fail.
abbrev pub WritesFront : SinkState → SinkState → List ℕ → Type 0
WritesFront old new whole = (front : List ℕ) × (rest : List ℕ) × (whole ≡ front ++ rest) × Accepts old new front

-- A front of this that isn't all was written, and then the sink failed: that put was the last one.
abbrev pub WritesPart : SinkState → SinkState → List ℕ → Type 0
WritesPart old new whole = (front : List ℕ) × (rest : List ℕ) × (whole ≡ front ++ rest) × (0 < length rest) × AcceptsUntilFault old new front

-- Every reply to these was written, and no put failed; all their permits were spent; and the records are those of their runs, no more and no
-- fewer.
pub record WroteAll {S R : Type 0} (before after : Moment R) (all : Walked S R) : Type 0 where
  pub out : Accepts before.sink after.sink all.out
  pub whole : all.whole ≡ true
  pub none_left : all.left ≡ []
  pub permits : after.bench.permits ≡ all.permits

-- The text was read to its end, or to a `quit` among the whole statements of the bytes that a text may have.
abbrev pub IsReadThrough : SourceState → List ℕ → Type 0
IsReadThrough source taken = (IsEnded source × (length taken ≤ limit)) ⊎ (has_quit (statements false (take limit taken)) ≡ true)

-- These are the first statements of that list.
abbrev pub Begins : List Placed → List Placed → Type 0
Begins these all = (later : List Placed) × (all ≡ these ++ later)

-- These are the first statements of the text that was taken; and where the source isn't at its end, they are among the whole statements of
-- the bytes that a text may have.
pub record AreFirst (source : SourceState) (taken : List ℕ) (these : List Placed) : Type 0 where
  pub read : Begins these (statements true taken)
  pub whole : source.ended ≡ false → Begins these (statements false (take limit taken))

-- The sink failed at the reply to `last`. All statements up to that one were answered, none is a `quit`, and none behind it was answered:
-- the records are those of their runs, and their permits were spent. The replies before the last one were written, and a part of that
-- one that isn't all; then a put failed, and nothing more was put.
pub record IsCutShort {S R : Type 0} (step : S → Placed → Step S R) (start : S) (before after : Moment R) (taken : List ℕ) : Type 0 where
  pub done : List Placed
  pub last : Placed
  pub first : AreFirst after.source taken (done ++ last ∷ [])
  pub answered : IsSome (walk step start (done ++ last ∷ []) after.bench.records.items).end
  pub none_left : (walk step start (done ++ last ∷ []) after.bench.records.items).left ≡ []
  pub permits : after.bench.permits ≡ (walk step start (done ++ last ∷ []) after.bench.records.items).permits
  pub part : List ℕ
  pub missing : List ℕ
  pub some : 0 < length missing
  pub out : (walk step start (done ++ last ∷ []) after.bench.records.items).out
      ≡ (walk step start done after.bench.records.items).out ++ (part ++ missing)
  pub put : AcceptsUntilFault before.sink after.sink ((walk step start done after.bench.records.items).out ++ part)

-- Memory was wanting. These statements were answered, none is a `quit`; their replies were written whole, and no other; and the records are
-- those of their runs, no more and no fewer, so that each run that left its record was answered. The statement behind them, if any was begun,
-- has no answer and left no record: it may have spent some of its permits.
pub record IsBrokenOff {S R : Type 0} (step : S → Placed → Step S R) (start : S) (before after : Moment R) (taken : List ℕ) : Type 0 where
  pub done : List Placed
  pub begun : List Placed
  pub one : length begun ≤ 1
  pub first : AreFirst after.source taken (done ++ begun)
  pub answered : IsSome (walk step start done after.bench.records.items).end
  pub put : Accepts before.sink after.sink (walk step start done after.bench.records.items).out
  pub none_left : (walk step start done after.bench.records.items).left ≡ []
  pub least : (walk step start done after.bench.records.items).permits ≤ after.bench.permits
  pub most : after.bench.permits ≤ (walk step start (done ++ begun) after.bench.records.items).permits

-- what a status says of the bytes that were taken
abbrev pub StatusSays : {S R : Type 0} → (S → Placed → Step S R) → S → Moment R → Moment R → List ℕ → Status → Type 0
StatusSays step start before after taken Fine =
    IsReadThrough after.source taken × WroteAll before after (session step start taken true after.bench.records.items)
    × ((session step start taken true after.bench.records.items).refused ≡ false)
StatusSays step start before after taken SomeRefused =
    IsReadThrough after.source taken × WroteAll before after (session step start taken true after.bench.records.items)
    × ((session step start taken true after.bench.records.items).refused ≡ true)
StatusSays step start before after taken Usage = ⊥
StatusSays step start before after taken ReadFault =
    (length taken ≤ limit) × (after.source.ended ≡ false) × (has_quit (statements false taken) ≡ false)
    × WroteAll before after (session step start taken false after.bench.records.items)
StatusSays step start before after taken WriteFault =
    IsCutShort step start before after taken
    × WritesPart before.sink after.sink (transcript step start taken true after.bench.records.items)
    × (after.source.ended ≡ false → WritesPart before.sink after.sink (transcript step start taken false after.bench.records.items))
    × (limit < length taken → WritesPart before.sink after.sink (transcript step start (take limit taken) false after.bench.records.items))
StatusSays step start before after taken NoMemory =
    IsBrokenOff step start before after taken
    × WritesFront before.sink after.sink (transcript step start taken true after.bench.records.items)
    × (after.source.ended ≡ false → WritesFront before.sink after.sink (transcript step start taken false after.bench.records.items))
StatusSays step start before after taken TooLong =
    (limit < length taken) × (has_quit (statements false (take limit taken)) ≡ false)
    × WroteAll before after (session step start (take limit taken) false after.bench.records.items)

-- How the bytes were taken: a take failed just where the status says so, and that take was the last one.
abbrev pub IsTaken : SourceState → SourceState → List ℕ → Status → Type 0
IsTaken before after taken Fine = Gives before after taken
IsTaken before after taken SomeRefused = Gives before after taken
IsTaken before after taken Usage = Gives before after taken
IsTaken before after taken ReadFault = GivesUntilFault before after taken
IsTaken before after taken WriteFault = Gives before after taken
IsTaken before after taken NoMemory = Gives before after taken
IsTaken before after taken TooLong = Gives before after taken

-- The bytes that were taken, the runs that they began with the records of these, and what the status says.
pub record Outcome {S R : Type 0} (step : S → Placed → Step S R) (Fits : S → R → Type 0) (start : S) (before after : Moment R) (result : Status) : Type 0 where
  -- the bytes that were taken
  pub taken : List ℕ
  pub took : IsTaken before.source after.source taken result
  -- the record of each run fits the state before that run
  pub fit : All (λ run. Fits run.0 run.1) (session step start taken true after.bench.records.items).runs
  pub told : StatusSays step start before after taken result

-- The other way round: what was done leaves one status, or want of memory.
pub record IsExact {S R : Type 0} (step : S → Placed → Step S R) (start : S) (before after : Moment R) (taken : List ℕ) (result : Status) : Type 0 where
  pub fine : IsReadThrough after.source taken → after.sink.put ≡ before.sink.put ++ transcript step start taken true after.bench.records.items
      → (session step start taken true after.bench.records.items).refused ≡ false → (result ≡ Fine) ⊎ (result ≡ NoMemory)
  pub some_refused : IsReadThrough after.source taken → after.sink.put ≡ before.sink.put ++ transcript step start taken true after.bench.records.items
      → (session step start taken true after.bench.records.items).refused ≡ true → (result ≡ SomeRefused) ⊎ (result ≡ NoMemory)
  pub too_long : limit < length taken → has_quit (statements false (take limit taken)) ≡ false
      → after.sink.put ≡ before.sink.put ++ transcript step start (take limit taken) false after.bench.records.items
      → (result ≡ TooLong) ⊎ (result ≡ NoMemory)
