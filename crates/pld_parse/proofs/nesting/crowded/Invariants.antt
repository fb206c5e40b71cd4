use Rattle.std.proofs.Common.{◌≡◌, ◌≤◌, length}
use Rattle.pld_grammar.specs.Symbols.{symbols}
use Rattle.pld_parse.specs.declared.nesting.TheConstants.{MAX_DEPTH}
use Rattle.pld_parse.specs.Faults.{crowded_at}
use Rattle.pld_parse.proofs.nesting.crowded.Given as goal

abbrev pub invariant-loop-kind : goal.invariant-loop-kind
invariant-loop-kind l = record {
  so_far : crowded_at MAX_DEPTH 0 (symbols l.fn.tokens) ≡ crowded_at MAX_DEPTH l.depth (symbols l.rest);
  within : l.depth ≤ MAX_DEPTH;
}

abbrev pub decreases-loop-kind : goal.decreases-loop-kind
decreases-loop-kind l = length (symbols l.rest)
