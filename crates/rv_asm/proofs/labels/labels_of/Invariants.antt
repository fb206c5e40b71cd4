use Rattle.std.proofs.Common.{◌≡◌, ◌≤◌, ◌+◌, ℕ, List, drop}
use Rattle.std.specs.Option.{option_or}
use Rattle.std.specs.Str.{bytes_eq}
use Rattle.std.specs.Map.{lookup}
use Rattle.rv_asm.specs.Coding.{first_label}
use Rattle.rv_asm.proofs.labels.labels_of.Given as goal

abbrev pub invariant-loop-line : goal.invariant-loop-line
invariant-loop-line l = record {
  rest : (q : List ℕ) → option_or (lookup (bytes_eq q) l.labels.entries) (first_label q l.number l.before (drop l.line-index l.lines)) ≡ first_label q l.first 0 l.lines;
  line : l.number ≡ l.first + l.line-index;
  before : l.before ≤ l.line-index;
}
