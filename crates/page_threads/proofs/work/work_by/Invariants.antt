use Rattle.std.proofs.Common.{◌≡◌}
use Rattle.fabric_lock.specs.Lock.{IsSeatOf}
use Rattle.page_threads.proofs.work.work_by.Given as goal

abbrev pub invariant-loop : goal.invariant-loop
invariant-loop g l = IsSeatOf l.lock l.seat × (l.seat.number ≡ l.initial.seat.number) × (l.seat.spare ≡ l.initial.seat.spare) × (l.seat.gathered ≡ l.initial.seat.gathered)
