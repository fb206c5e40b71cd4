use Rattle.std.proofs.Common.{◌≡◌, ◌≤◌, ◌++◌}
use Rattle.std.specs.Prelude.{vec_capacity}
use Rattle.fabric_core.specs.Runs.{state_of}
use Rattle.fabric_run.specs.World.{out_at}
use Rattle.fabric_run.specs.Reply.{out_line, lines_below, name_in}
use Rattle.pld_reply.proofs.runs.put_outs.Given as goal

abbrev pub invariant-loop-k : goal.invariant-loop-k
invariant-loop-k l = (l.reply.items ≡ l.fn.reply.items ++ lines_below (λ k. out_line (name_in l.outputs k) (out_at (state_of l.fabric) k)) l.k) × (vec_capacity l.fn.reply ≤ vec_capacity l.reply)
