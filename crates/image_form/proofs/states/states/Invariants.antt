use Rattle.std.proofs.Common.{◌≡◌, ◌-◌, [], map}
use Rattle.fsm_core.specs.Table.{stage_in}
use Rattle.image_form.specs.Reading.{many}
use Rattle.image_form.specs.Tables.{state_at}
use Rattle.image_form.specs.Views.{bounds_in}
use Rattle.image_form.proofs.states.states.Given as goal

abbrev pub invariant-loop : goal.invariant-loop
invariant-loop l = many (λ before. state_at (bounds_in l.limits)) (l.count - l.counter) (map stage_in l.states.items) l.rest ≡ many (λ before. state_at (bounds_in l.limits)) l.count [] l.bytes
