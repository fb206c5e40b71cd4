use Rattle.std.proofs.Common.{ℕ, ◌<◌, ◌≤◌}
use Rattle.pld_graph.specs.Design.{operator_at}
use Rattle.pld_link.proofs.seats.has_slots.Given as goal

abbrev pub invariant-loop-k : goal.invariant-loop-k
invariant-loop-k l = (j : ℕ) → j < l.k → ((operator_at l.g.operators j).ins ≤ 8) × ((operator_at l.g.operators j).outs ≤ 8)
