use Rattle.std.proofs.Common.{◌≡◌, length}
use Rattle.pld_script.specs.Words.{words_of}
use Rattle.pld_script.specs.Grammar.{numbers_in}
use Rattle.pld_script.proofs.Wording.{ahead_of}
use Rattle.pld_script.proofs.grammar.numbers_of.Given as goal

abbrev pub invariant-loop-word : goal.invariant-loop-word
invariant-loop-word l = ahead_of l.numbers.items (numbers_in (words_of l.rest)) ≡ numbers_in (words_of l.line)

abbrev pub decreases-loop-word : goal.decreases-loop-word
decreases-loop-word l = length l.rest
