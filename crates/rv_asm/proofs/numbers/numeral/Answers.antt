use Rattle.std.proofs.Common.{sym}
use Rattle.rv_asm.proofs.Counting.{numeral_told}
use Rattle.rv_asm.proofs.numbers.numeral.Goals as goal

pub returns-then-is_numeral-clause-value : goal.returns-then-is_numeral-clause-value
returns-then-is_numeral-clause-value c =
    numeral_told c.args.radix c.args.most c.args.word.now c.value_of.result c.requires.high c.requires.few (sym c.if-is_numeral.ensures) c.value_of.ensures
