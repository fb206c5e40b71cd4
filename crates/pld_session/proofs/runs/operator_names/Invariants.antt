use Rattle.std.proofs.Common.{◌≡◌, map, take}
use Rattle.pld_session.proofs.runs.operator_names.Given as goal

abbrev pub invariant-loop-k : goal.invariant-loop-k
invariant-loop-k l = l.names.items ≡ map (λ o. o.name) (take l.k l.graph.operators)
