use Rattle.std.proofs.Common.{◌≡◌, ◌+◌, ◌-◌}
use Rattle.pld_place.specs.Distance.{level_over}
use Rattle.pld_place.proofs.ends.level_over.Given as goal

abbrev pub invariant-loop-level : goal.invariant-loop-level
invariant-loop-level l = l.level + level_over (l.levels - l.level) l.low l.high ≡ level_over l.levels l.a l.b
