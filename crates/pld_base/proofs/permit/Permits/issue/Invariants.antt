use Rattle.std.proofs.Common.{◌≡◌, vec_len}
use Rattle.pld_base.proofs.permit.Permits.issue.Given as goal

abbrev pub invariant-loop-made : goal.invariant-loop-made
invariant-loop-made l = vec_len l.permits ≡ l.made
