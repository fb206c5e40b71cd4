use Rattle.std.proofs.Common.{arith}
use Rattle.pld_words.proofs.Counting.{counts_none, counts_small, counts_more}
use Rattle.pld_words.proofs.number.digits.Goals as goal

pub loop-b-init : goal.loop-b-init
loop-b-init c = counts_none c.args.word.now

pub overflow_mul-value : goal.overflow_mul-value
overflow_mul-value c = omega (arith, counts_small c.args.word.now c.loop-b.b-index c.loop-b.value c.loop-b.invariant (omega arith))

pub overflow_add-value : goal.overflow_add-value
overflow_add-value c =
    omega (arith, counts_small c.args.word.now c.loop-b.b-index c.loop-b.value c.loop-b.invariant (omega arith), c.in-Some.ensures.small)

pub loop-b-preserved : goal.loop-b-preserved
loop-b-preserved c =
    counts_more c.args.word.now c.loop-b.b-index c.loop-b.value c.in-Some.digit
    c.loop-b.invariant (omega arith) c.in-Some.ensures.value c.in-Some.ensures.small
