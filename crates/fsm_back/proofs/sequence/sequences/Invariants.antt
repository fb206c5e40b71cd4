use Rattle.std.proofs.Common.{◌≡◌, map, take}
use Rattle.fsm_back.specs.Sequences.{sequence_in, schedule_in}
use Rattle.fsm_back.proofs.sequence.sequences.Given as goal

abbrev pub invariant-loop-block : goal.invariant-loop-block
invariant-loop-block l = map sequence_in l.all.items ≡ map schedule_in (take l.block-index l.blocks)
