use Rattle.std.proofs.Common.{◌≡◌, ◌≤◌, ◌+◌, ◌++◌, map, drop}
use Rattle.fsm_back.specs.Sequences.{sequence_in, count_states, starts}
use Rattle.fsm_back.proofs.sequence.first_states.Given as goal

abbrev pub invariant-loop-block : goal.invariant-loop-block
invariant-loop-block l = record {
  so_far : l.firsts.items ++ starts l.first (map sequence_in (drop l.block-index l.blocks)) ≡ starts 0 (map sequence_in l.blocks);
  room : l.first + count_states (map sequence_in (drop l.block-index l.blocks)) ≤ 65535;
}
