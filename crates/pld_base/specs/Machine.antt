-- Machines that move from state to state, as processes.
use Rattle.std.specs.Prelude.{ℕ, zero, suc, List, [], ◌∷◌, ◌==◌, if◌then◌else◌}
use Rattle.pld_base.specs.Process.{TraceEnd, Returned, Starved, Cut, Trace, Inputs, Process}
use Rattle.pld_base.specs.declared.event.Event.{Event}
use Rattle.pld_base.specs.declared.event.Event.TheVariants.{Read, Write}

-- what a machine does next in a state of S
pub data Move (S : Type 0) : Type 0 where
  Steps : (after : S) → Move S
  Reads : (port : ℕ) (after : ℕ → S) → Move S
  Writes : (port word : ℕ) (after : S) → Move S
  Stops : Move S

abbrev pub rest_of : List ℕ → List ℕ
rest_of [] = []
rest_of (word ∷ words) = words

-- the words that are left once the first at a port was read
abbrev pub past_first : ℕ → Inputs → Inputs
past_first port ins q = if port == q then rest_of (ins q) else ins q

abbrev pub stays : TraceEnd → Trace
stays end = record { events = []; end = end }

abbrev pub goes_on_after : Event → Trace → Trace
goes_on_after event trace = record { events = event ∷ trace.events; end = trace.end }

-- goes on with the first of the words, or starves
abbrev pub fed : ℕ → List ℕ → (ℕ → Trace) → Trace
fed port [] go = stays (Starved port)
fed port (word ∷ words) go = go word

-- with no move left
abbrev pub standing : {S : Type 0} → Move S → Inputs → Trace
standing (Steps after) ins = stays Cut
standing (Reads port after) ins = fed port (ins port) (λ word. stays Cut)
standing (Writes port word after) ins = stays Cut
standing Stops ins = stays Returned

-- with one move and what follows it
abbrev pub moved : {S : Type 0} → Move S → Inputs → (S → Inputs → Trace) → Trace
moved (Steps after) ins go = go after ins
moved (Reads port after) ins go =
    fed port (ins port) (λ word. goes_on_after (Read (record { 0 = port }) word) (go (after word) (past_first port ins)))
moved (Writes port word after) ins go = goes_on_after (Write (record { 0 = port }) word) (go after ins)
moved Stops ins go = stays Returned

abbrev pub run : {S : Type 0} → (S → Move S) → ℕ → S → Inputs → Trace
run next zero state ins = standing (next state) ins
run next (suc n) state ins = moved (next state) ins (run next n)

-- a machine's turns are its moves
abbrev pub machine : {S : Type 0} → (S → Move S) → S → Process
machine next state ins turns = run next turns state ins
