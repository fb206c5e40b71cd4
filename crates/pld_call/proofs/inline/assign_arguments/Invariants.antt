use Rattle.std.proofs.Common.{◌≡◌, ◌+◌, ◌++◌, map, drop}
use Rattle.pld_call.specs.Trees.{renamed as renamed_of, given_from}
use Rattle.pld_call.specs.Scopes.{names_at}
use Rattle.pld_call.proofs.inline.assign_arguments.Given as goal

abbrev pub invariant-loop-k : goal.invariant-loop-k
invariant-loop-k l =
    l.made ++ given_from l.at (l.first + l.k) (map (renamed_of (names_at l.scope) l.scope.first) (drop l.k l.args)) ≡ given_from l.at l.first (map (renamed_of (names_at l.scope) l.scope.first) l.args)
