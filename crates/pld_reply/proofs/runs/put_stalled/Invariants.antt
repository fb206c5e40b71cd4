use Rattle.std.proofs.Common.{◌≡◌, ◌≤◌, ◌++◌}
use Rattle.std.specs.Prelude.{vec_capacity}
use Rattle.fabric_core.specs.Runs.{setup_for, state_of}
use Rattle.fabric_run.specs.Replay.{blocked}
use Rattle.fabric_run.specs.Reply.{at_line, lines_below, name_in}
use Rattle.pld_reply.proofs.runs.put_stalled.Given as goal

abbrev pub invariant-loop-k : goal.invariant-loop-k
invariant-loop-k l = (l.reply.items ≡ l.fn.reply.items ++ lines_below (λ k. at_line (name_in l.names k) (blocked (setup_for l.fabric) (state_of l.fabric) k)) l.k) × (vec_capacity l.fn.reply ≤ vec_capacity l.reply)
