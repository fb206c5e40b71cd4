use Rattle.std.proofs.Common.{◌≡◌, ◌-◌}
use Rattle.hot_swap.specs.Advances.{ran}
use Rattle.hot_swap.specs.Chase.{seen, chasing}
use Rattle.hot_swap.proofs.chasing.Chasing.advance.Given as goal

abbrev pub invariant-loop-made : goal.invariant-loop-made
invariant-loop-made g l = ran (chasing g.C.Steps.meaning) (l.most - l.made) (seen g.C.Steps.state l.self) ≡ ran (chasing g.C.Steps.meaning) l.most (seen g.C.Steps.state l.fn.self)
