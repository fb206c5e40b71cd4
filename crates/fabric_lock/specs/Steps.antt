-- What each step tells its seat.
use Rattle.std.specs.Prelude.{◌≡◌, ◌≢◌, ℕ, ◌+◌, ◌≤◌, List, [], ◌∷◌, Option, Some, None}
use Rattle.atomic_table.specs.Table.{Me, Step}
use Rattle.fabric_lock.specs.declared.views.View.{View}
use Rattle.fabric_lock.specs.declared.views.Stage.TheVariants.{Free, Holding}
use Rattle.fabric_lock.specs.History.{Begins, entries_of}
use Rattle.fabric_lock.specs.Views.{entered, with_more, at_stage}

-- a seat's view, and the slot that it has taken
abbrev SeatState : Type 0 → Type 0
SeatState T = Me (Option T) (View T)

abbrev StepOn : Type 0 → Type 0
StepOn T = Step (Option T)

-- the value's base is this one's
abbrev pub HasBase : {T B : Type 0} → (T → B) → T → Option T → Type 0
HasBase base x None = Unit {0}
HasBase base x (Some f) = base x ≡ base f

module _ {T B : Type 0} (base : T → B) (told : T → List ℕ) where
  -- the seat is in a hold and has the value, whose history begins with all that the seat has seen and has just its own entries of it
  pub record Claims (m m' : SeatState T) : Type 0 where
    pub history : List ℕ
    pub value : T
    pub view : m'.0 ≡ entered history m.0
    pub slot : m'.1 ≡ (0, Some value) ∷ m.1
    pub begins : Begins history m.0.seen
    pub own : entries_of m.0.number history ≡ m.0.own
    pub base_is : HasBase base value m.0.first
    pub told_is : told value ≡ history

  -- the claim, where word 0 was 0; else nothing changes
  abbrev pub claimed : StepOn T → SeatState T → ℕ → SeatState T → Type 0
  claimed st m found m' = (found ≡ 0 → Claims m m') × (found ≢ 0 → m' ≡ m)

module _ {T : Type 0} where
  -- the empty slot is taken, to be filled
  abbrev pub opened : StepOn T → SeatState T → ℕ → SeatState T → Type 0
  opened st m found m' = m' ≡ (at_stage Holding m.0, (0, None) ∷ m.1)

  -- these entries are added
  abbrev pub telling : List ℕ → StepOn T → SeatState T → ℕ → SeatState T → Type 0
  telling more st m found m' = m' ≡ (with_more more m.0, m.1)

  -- the slot is given back, and the hold is over
  abbrev pub released : StepOn T → SeatState T → ℕ → SeatState T → Type 0
  released st m found m' = m' ≡ (at_stage Free m.0, [])

  -- nothing changes, and the seat's counts are within the number of workers
  abbrev pub looked : StepOn T → SeatState T → ℕ → SeatState T → Type 0
  looked st m found m' = (m' ≡ m) × (m.0.spare + m.0.gathered ≤ m.0.workers)
