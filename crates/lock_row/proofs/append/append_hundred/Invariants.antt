use Rattle.std.proofs.Common.{◌≡◌, ◌++◌}
use Rattle.fabric_lock.specs.Lock.{IsSeatOf, own}
use Rattle.lock_row.specs.Row.{counted_to}
use Rattle.lock_row.proofs.append.append_hundred.Given as goal

abbrev pub invariant-loop-count : goal.invariant-loop-count
invariant-loop-count g l =
    IsSeatOf l.lock l.seat × (l.seat.number ≡ l.initial.seat.number) × (l.seat.spare ≡ l.initial.seat.spare) × (l.seat.gathered ≡ l.initial.seat.gathered) × (own l.seat ≡ own l.initial.seat ++ counted_to l.initial.seat.number l.count)
