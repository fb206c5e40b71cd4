use Rattle.std.proofs.Common.{◌≡◌, map, take}
use Rattle.fsm_core.specs.Stands.{stand_of}
use Rattle.fsm_core.proofs.kept.stands.Given as goal

abbrev pub invariant-loop-state : goal.invariant-loop-state
invariant-loop-state l = l.stands.items ≡ map stand_of (take l.state-index l.states)
