-- What an operator does, seen from outside: its traces on finite inputs, and the laws of a process with blocking reads.
use Rattle.std.specs.Prelude.{◌≡◌, ◌≢◌, ℕ, ◌≤◌, List, [], ◌∷◌, ◌++◌, ◌⊎◌, All}
use Rattle.pld_base.specs.Prefix.{IsPrefixOf}
use Rattle.pld_base.specs.Events.{words_read, words_written}
use Rattle.pld_base.specs.Words.{IsWord}
use Rattle.pld_base.specs.declared.event.Event.{Event}
use Rattle.pld_base.specs.declared.event.Event.TheVariants.{Read}

-- how a trace ends: the process is over, it reads at a port that has no more words, or its turns are used up
pub data TraceEnd : Type 0 where
  Returned : TraceEnd
  Starved : (port : ℕ) → TraceEnd
  Cut : TraceEnd

-- the events of a run, in order, and its end
pub record Trace : Type 0 where
  pub events : List Event
  pub end : TraceEnd

-- the words at each in-port
abbrev pub Inputs : Type 0
Inputs = ℕ → List ℕ

-- a process gives its trace on these inputs, with so many turns
abbrev pub Process : Type 0
Process = Inputs → ℕ → Trace

-- the inputs are words
abbrev pub AreWords : Inputs → Type 0
AreWords ins = (port : ℕ) → All IsWord (ins port)

-- on words, whatever is written at a port is a word
abbrev pub WritesWords : Process → Type 0
WritesWords trace = (ins : Inputs) → AreWords ins → (turns port : ℕ) → All IsWord (words_written (trace ins turns).events port)

-- each in-port has the same words, and maybe more after them
abbrev pub IsExtendedBy : Inputs → Inputs → Type 0
IsExtendedBy ins more = (port : ℕ) → IsPrefixOf (ins port) (more port)

-- nothing more happens, or the next event is a read at this port
abbrev pub StaysOrReads : List Event → ℕ → List Event → Type 0
StaysOrReads events port later =
    (later ≡ events) ⊎ ((word : ℕ) × IsPrefixOf (events ++ Read (record { 0 = port }) word ∷ []) later)

-- the laws of a process with blocking reads
pub record IsProcess (trace : Process) : Type 0 where
  -- more turns extend the trace, and leave one that isn't cut as it is
  pub more_turns : (ins : Inputs) (m n : ℕ) → m ≤ n → IsPrefixOf (trace ins m).events (trace ins n).events
  pub uncut : (ins : Inputs) (m n : ℕ) → m ≤ n → (trace ins m).end ≢ Cut → trace ins n ≡ trace ins m
  -- more words extend the trace, and leave one that isn't starved as it is
  pub more_words : (ins more : Inputs) (n : ℕ) → IsExtendedBy ins more → IsPrefixOf (trace ins n).events (trace more n).events
  pub unstarved : (ins more : Inputs) (n : ℕ) → IsExtendedBy ins more → ((port : ℕ) → (trace ins n).end ≢ Starved port) → trace more n ≡ trace ins n
  -- the words read at a port are the first ones there
  pub reads_in_order : (ins : Inputs) (n port : ℕ) → IsPrefixOf (words_read (trace ins n).events port) (ins port)
  -- where it starves at a port, it has read all words there
  pub reads_all : (ins : Inputs) (n port : ℕ) → (trace ins n).end ≡ Starved port → words_read (trace ins n).events port ≡ ins port
  -- where it starves at a port, it waits for a word there and does nothing else
  pub waits : (ins more : Inputs) (m n port : ℕ) → IsExtendedBy ins more → m ≤ n → (trace ins m).end ≡ Starved port → StaysOrReads (trace ins m).events port (trace more n).events

-- the process that returns at once
abbrev pub idle : Process
idle ins turns = record { events = []; end = Returned }
