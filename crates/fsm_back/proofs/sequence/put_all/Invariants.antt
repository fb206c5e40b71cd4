use Rattle.std.proofs.Common.{◌≡◌, ◌≤◌, ◌+◌, ◌++◌, map, length}
use Rattle.std.specs.Prelude.{slice_index}
use Rattle.std.specs.Vec.Iter.{into_iter_items, into_iter_len}
use Rattle.fsm_core.specs.Table.{stage_in}
use Rattle.fsm_back.specs.Sequences.{sequence_in, count_states, laid_all}
use Rattle.fsm_back.proofs.sequence.put_all.Given as goal

abbrev pub invariant-loop-block : goal.invariant-loop-block
invariant-loop-block l =
    (map stage_in l.states.items ++ laid_all (slice_index l.firsts) (length l.states.items) (map sequence_in (into_iter_items l.block-iterator)) ≡ laid_all (slice_index l.firsts) 0 (map sequence_in (into_iter_items l.initial.block-iterator)))
    × (length l.states.items + count_states (map sequence_in (into_iter_items l.block-iterator)) ≤ 65535)
    × (into_iter_len l.block-iterator ≡ length (into_iter_items l.block-iterator))
