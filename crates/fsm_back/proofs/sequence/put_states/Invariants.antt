use Rattle.std.proofs.Common.{◌≡◌, ◌≤◌, ◌+◌, ◌++◌, map, length}
use Rattle.std.specs.Vec.Iter.{into_iter_items, into_iter_len}
use Rattle.fsm_core.specs.Table.{stage_in}
use Rattle.fsm_back.specs.Table.{chained}
use Rattle.fsm_back.proofs.sequence.put_states.Given as goal

abbrev pub invariant-loop-micros : goal.invariant-loop-micros
invariant-loop-micros l =
    (map stage_in l.states.items ++ chained (length l.states.items) (map (λ m. m.items) (into_iter_items l.micros-iterator)) l.next ≡ map stage_in l.initial.states.items ++ chained (length l.initial.states.items) (map (λ m. m.items) (into_iter_items l.initial.micros-iterator)) l.next)
    × (l.after ≡ length (into_iter_items l.micros-iterator))
    × (into_iter_len l.micros-iterator ≡ length (into_iter_items l.micros-iterator))
    × (length l.states.items + l.after ≤ 65535)
