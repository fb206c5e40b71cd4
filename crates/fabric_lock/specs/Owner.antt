-- Whose lock a place is of.
use Rattle.std.specs.Prelude.{◌≡◌, ◌≤◌, ◌+◌, Option, Some}
use Rattle.atomic_table.specs.declared.shared.Seat.{Seat}
use Rattle.atomic_table.specs.Seated.{TableId}
use Rattle.fabric_lock.specs.declared.views.View.{View}
use Rattle.fabric_lock.specs.declared.views.About.{About}

module _ {T : Type 0} where
  -- the place is of this table, its base and its number of workers are those that the lock was made with, and its counts are within that number
  pub record BelongsTo (lock : TableId) (about : About T) (place : Seat (Option T) (View T)) : Type 0 where
    pub table : place.table_id ≡ lock
    pub first : place.me.0.first ≡ Some about.first.value
    pub crew : place.me.0.workers ≡ about.workers
    pub few : place.me.0.spare + place.me.0.gathered ≤ about.workers
