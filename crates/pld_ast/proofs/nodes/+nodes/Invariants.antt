use Rattle.std.proofs.Common.{◌≡◌, ◌≤◌, ◌+◌, drop}
use Rattle.std.specs.Prelude.{min}
use Rattle.pld_ast.specs.Nodes.{action_nodes}
use Rattle.pld_ast.specs.Resolve.{Names, block_in}
use Rattle.pld_ast.proofs.nodes.+nodes.Given as goal

abbrev pub invariant-block_nodes-loop-s : goal.invariant-block_nodes-loop-s
invariant-block_nodes-loop-s l = record {
  so_far : (d : Names) → min (l.n + action_nodes (block_in d (drop l.s-index l.block))) 1001 ≡ min (action_nodes (block_in d l.block)) 1001;
  bound : l.n ≤ 1001;
}
