use Rattle.std.proofs.Common.{◌≡◌, length}
use Rattle.pld_parse.specs.Reading.{all_applied}
use Rattle.pld_parse.proofs.prefix.apply.Given as goal

abbrev pub invariant-loop-form : goal.invariant-loop-form
invariant-loop-form l = all_applied l.left l.value ≡ all_applied l.fn.forms l.fn.inner

abbrev pub decreases-loop-form : goal.decreases-loop-form
decreases-loop-form l = length l.left
