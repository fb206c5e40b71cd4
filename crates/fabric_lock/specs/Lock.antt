-- What clauses read of a lock and a seat.
use Rattle.std.specs.Prelude.{ℕ, List}
use Rattle.fabric_lock.specs.declared.lock.FabricLock.{FabricLock}
use Rattle.fabric_lock.specs.declared.seat.Seat.{Seat}
use Rattle.fabric_lock.specs.declared.held.Held.{Held}
use Rattle.fabric_lock.specs.Owner.{BelongsTo}

module _ {T B : Type 0} where
  -- the value that the lock was made with; its base is the lock's
  abbrev pub first_of : FabricLock T B → T
  first_of lock = lock.table.shared.key.first.value

  -- the seat, or the hold, is of this lock
  abbrev pub IsSeatOf : FabricLock T B → Seat T → Type 0
  IsSeatOf lock seat = BelongsTo lock.table.shared.table_id lock.table.shared.key seat.place

  abbrev pub IsHeldOf : FabricLock T B → Held T → Type 0
  IsHeldOf lock held = BelongsTo lock.table.shared.table_id lock.table.shared.key held.place

module _ {T : Type 0} where
  -- the history that a seat has seen, and its own entries
  abbrev pub seen : Seat T → List ℕ
  seen seat = seat.place.me.0.seen

  abbrev pub own : Seat T → List ℕ
  own seat = seat.place.me.0.own

  -- the history at `enter`, and the own entries then
  abbrev pub found : Held T → List ℕ
  found held = held.place.me.0.seen

  abbrev pub own_then : Held T → List ℕ
  own_then held = held.place.me.0.own
