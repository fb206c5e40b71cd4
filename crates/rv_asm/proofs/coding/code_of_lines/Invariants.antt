use Rattle.std.proofs.Common.{◌≡◌, ◌≤◌, ◌+◌, drop}
use Rattle.std.specs.Prelude.{All}
use Rattle.std.specs.Str.{bytes_eq}
use Rattle.std.specs.Map.{lookup}
use Rattle.image_form.specs.Spelling.{IsCode}
use Rattle.rv_asm.specs.Coding.{code_of, led}
use Rattle.rv_asm.proofs.coding.code_of_lines.Given as goal

abbrev pub invariant-loop-line : goal.invariant-loop-line
invariant-loop-line l = record {
  rest : led l.code.items (code_of (λ q. lookup (bytes_eq q) l.labels.entries) l.number l.before (drop l.line-index l.lines)) ≡ code_of (λ q. lookup (bytes_eq q) l.labels.entries) l.first 0 l.lines;
  line : l.number ≡ l.first + l.line-index;
  before : l.before ≤ l.line-index;
  words : All IsCode l.code.items;
}
