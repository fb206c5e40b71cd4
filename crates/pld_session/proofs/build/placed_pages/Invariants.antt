use Rattle.std.proofs.Common.{◌≡◌, map, take}
use Rattle.pld_session.specs.Answers.{pages_from}
use Rattle.pld_session.proofs.build.placed_pages.Given as goal

abbrev pub invariant-loop-k : goal.invariant-loop-k
invariant-loop-k l = l.pages.items ≡ pages_from (take l.k (map (λ p. p.0) l.leaves)) (take l.k l.graph.operators) (take l.k l.sources)
