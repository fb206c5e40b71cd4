use Rattle.std.proofs.Common.{◌≡◌, ◌++◌, take, map}
use Rattle.std.specs.List.{flat_map}
use Rattle.fsm_core.specs.Table.{stage_in}
use Rattle.image_form.specs.Spelling.{state_bytes}
use Rattle.image_form.proofs.put.put_states.Given as goal

abbrev pub invariant-loop-state : goal.invariant-loop-state
invariant-loop-state l = l.out.items ≡ l.initial.out.items ++ flat_map state_bytes (map stage_in (take l.state-index l.states))
