use Rattle.std.proofs.Common.{◌≡◌, ◌-◌, ◌+◌, [], sum}
use Rattle.image_form.specs.Reading.{many}
use Rattle.image_form.specs.Tables.{length_at}
use Rattle.image_form.proofs.tables.lengths.Given as goal

abbrev pub invariant-loop : goal.invariant-loop
invariant-loop l = (many length_at (l.count - l.counter) l.lengths.items l.rest ≡ many length_at l.count [] l.bytes) × (l.room + sum l.lengths.items ≡ 8192)
