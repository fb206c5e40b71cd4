use Rattle.std.proofs.Common.{◌≡◌, ◌-◌, []}
use Rattle.image_form.specs.Reading.{many}
use Rattle.image_form.specs.Tables.{micro_at}
use Rattle.image_form.specs.Views.{bounds_in}
use Rattle.image_form.proofs.states.micros.Given as goal

abbrev pub invariant-loop : goal.invariant-loop
invariant-loop l = many (micro_at (bounds_in l.limits)) (l.count - l.counter) l.micros.items l.rest ≡ many (micro_at (bounds_in l.limits)) l.count [] l.bytes
