use Rattle.std.proofs.Common.{◌≡◌, length}
use Rattle.pld_grammar.specs.Symbols.{symbols}
use Rattle.pld_parse.specs.Reading.{all_written}
use Rattle.pld_parse.proofs.prefix.prefixes.Given as goal

abbrev pub invariant-loop-forms : goal.invariant-loop-forms
invariant-loop-forms l = symbols l.fn.tokens ≡ all_written l.forms (symbols l.rest)

abbrev pub decreases-loop-forms : goal.decreases-loop-forms
decreases-loop-forms l = length l.rest
