use Rattle.std.proofs.Common.{ℕ, List, ◌≤◌, ◌<◌, length, get_or}
use Rattle.pld_session.proofs.runs.are_short.Given as goal

abbrev pub invariant-loop-name : goal.invariant-loop-name
invariant-loop-name l = (i : ℕ) (d : List ℕ) → i < l.name-index → length (get_or l.names i d) ≤ 32
