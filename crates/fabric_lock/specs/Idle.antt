-- What a seat's place is between two holds, and in one.
use Rattle.std.specs.Prelude.{◌≡◌, ℕ, [], ◌∷◌, Option, None}
use Rattle.atomic_table.specs.declared.shared.Seat.{Seat}
use Rattle.fabric_lock.specs.declared.views.View.{View}
use Rattle.fabric_lock.specs.declared.views.Stage.TheVariants.{Free, Holding}
use Rattle.fabric_lock.specs.History.{entries_of}

module _ {T : Type 0} where
  -- in no hold: the place knows the seat's number and counts, and has taken no slot
  pub record IsIdle (place : Seat (Option T) (View T)) (number spare gathered : ℕ) : Type 0 where
    pub number_is : place.me.0.number ≡ number
    pub spare_is : place.me.0.spare ≡ spare
    pub gathered_is : place.me.0.gathered ≡ gathered
    pub stage_is : place.me.0.stage ≡ Free
    pub empty : place.me.1 ≡ []

  -- in a hold: the slot is taken, and its value is out. The own entries are all of the seat's number in the history that was found
  pub record IsBusy (place : Seat (Option T) (View T)) (number spare gathered : ℕ) : Type 0 where
    pub number_is : place.me.0.number ≡ number
    pub spare_is : place.me.0.spare ≡ spare
    pub gathered_is : place.me.0.gathered ≡ gathered
    pub stage_is : place.me.0.stage ≡ Holding
    pub hole : place.me.1 ≡ (0, None) ∷ []
    pub all : place.me.0.own ≡ entries_of number place.me.0.seen
