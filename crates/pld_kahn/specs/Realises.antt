-- An image does what its operator means.
use Rattle.std.specs.Prelude.{◌≡◌, ℕ, ◌≤◌, ◌↔◌, List}
use Rattle.pld_base.specs.Prefix.{IsPrefixOf}
use Rattle.pld_base.specs.Process.{TraceEnd, Returned, Starved, Cut, Inputs, Process, AreWords}
use Rattle.pld_base.specs.declared.event.Event.{Event}

-- with some number of turns the process has just these events and this end
abbrev pub CanEnd : Process → Inputs → List Event → TraceEnd → Type 0
CanEnd trace ins events end = (turns : ℕ) × ((trace ins turns).events ≡ events) × ((trace ins turns).end ≡ end)

-- an image's turns are its moves: it has returned where it ended or trapped, and is starved where it stands at an exhausted read
pub record Realises (image operator : Process) : Type 0 where
  pub within : (ins : Inputs) → AreWords ins → (moves : ℕ) → (turns : ℕ) × IsPrefixOf (image ins moves).events (operator ins turns).events
  pub covers : (ins : Inputs) → AreWords ins → (turns : ℕ) → (moves : ℕ) × IsPrefixOf (operator ins turns).events (image ins moves).events
  pub returns : (ins : Inputs) → AreWords ins → (events : List Event) → CanEnd image ins events Returned ↔ CanEnd operator ins events Returned
  pub starves : (ins : Inputs) → AreWords ins → (events : List Event) (port : ℕ) → CanEnd image ins events (Starved port) ↔ CanEnd operator ins events (Starved port)

-- after some moves the image is where the operator is, and a cut trace takes at least as many moves as turns
abbrev pub KeepsUp : Process → Process → Type 0
KeepsUp image operator =
    (ins : Inputs) → AreWords ins → (turns : ℕ) → (moves : ℕ) × (image ins moves ≡ operator ins turns) × ((operator ins turns).end ≡ Cut → turns ≤ moves)
