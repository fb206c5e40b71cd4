use Rattle.std.proofs.lemmas.Result.{err_from_is_err_and}
use Rattle.image_form.specs.Reading.{code_at}
use Rattle.image_form.proofs.Many.{goes_on, ends, stopped, is_done}
use Rattle.image_form.proofs.reading.code_words.Goals as goal

pub returns-in_err-word : goal.returns-in_err-word
returns-in_err-word c =
    let p = err_from_is_err_and c.from_residual.result c.from_residual.ensures.1 in
    rw p.1 (stopped c.in_err-word.field-0.0 _ p.0 (ends (λ before. code_at) c.args.count c.loop.counter c.loop.words.items c.loop.rest.now c.in_err-word.field-0.0.left _ c.loop-test.true c.in_err-word.ensures c.loop.invariant) p.2)

pub loop-preserved : goal.loop-preserved
loop-preserved c =
    rw c.in_ok-push.ensures.items (goes_on (λ before. code_at) c.args.count c.loop.counter c.loop.words.items c.loop.rest.now c.in_ok-word.word c.in_ok-word.after.now _ c.loop-test.true c.in_ok-word.ensures c.loop.invariant)

pub returns : goal.returns
returns c = is_done (λ before. code_at) c.args.count c.loop.counter c.loop.words.items c.loop.rest.now _ c.loop-test.false c.loop.invariant
