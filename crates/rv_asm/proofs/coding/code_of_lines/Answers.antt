use Rattle.std.proofs.Common.{arith}
use Rattle.std.specs.Str.{bytes_eq}
use Rattle.std.specs.Map.{lookup}
use Rattle.rv_asm.proofs.Joining.{fault_told, line_at, words_go}
use Rattle.rv_asm.proofs.coding.code_of_lines.Goals as goal

pub returns-in-Err-clause-value : goal.returns-in-Err-clause-value
returns-in-Err-clause-value c =
    fault_told (λ q. lookup (bytes_eq q) c.args.labels.now.entries) c.loop-line.number c.loop-line.before c.args.first c.loop-line.line-index c.args.lines.now c.line-item.result c.loop-line.code.items c.in-Err.refused c.in-Err.ensures.value
    (line_at c.args.lines.now c.loop-line.line-index c.line-item.result c.line-item.is c.loop-line-test.true) c.loop-line.invariant.rest

pub loop-line-preserved : goal.loop-line-preserved
loop-line-preserved c = record {
  rest = words_go (λ q. lookup (bytes_eq q) c.args.labels.now.entries) c.loop-line.number c.loop-line.before c.in-Ok.after c.args.first c.loop-line.line-index c.args.lines.now c.line-item.result c.loop-line.code.items c.add_line.new.code.items c.in-Ok.ensures.value
      (line_at c.args.lines.now c.loop-line.line-index c.line-item.result c.line-item.is c.loop-line-test.true) c.loop-line.invariant.rest;
  line = omega (arith, c.loop-line.invariant.line);
  before = omega (arith, c.in-Ok.ensures.bound, c.loop-line.invariant.before);
  words = c.in-Ok.ensures.words;
}
