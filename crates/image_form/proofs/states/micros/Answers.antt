use Rattle.std.proofs.lemmas.Result.{err_from_is_err_and}
use Rattle.image_form.specs.Tables.{micro_at}
use Rattle.image_form.specs.Views.{bounds_in}
use Rattle.image_form.proofs.Many.{same_before, goes_on, ends, stopped, is_done}
use Rattle.image_form.proofs.states.micros.Goals as goal

pub returns-in_err-m : goal.returns-in_err-m
returns-in_err-m c =
    let p = err_from_is_err_and c.from_residual.result c.from_residual.ensures.1 in
    rw p.1 (stopped c.in_err-m.field-0.0 _ p.0 (ends (micro_at (bounds_in c.args.limits)) c.args.count c.loop.counter c.loop.micros.items c.loop.rest.now c.in_err-m.field-0.0.left _ c.loop-test.true (same_before (micro_at (bounds_in c.args.limits)) _ _ c.loop.rest.now _ c.deref.ensures.value c.in_err-m.ensures) c.loop.invariant) p.2)

pub loop-preserved : goal.loop-preserved
loop-preserved c =
    rw c.in_ok-push.ensures.items (goes_on (micro_at (bounds_in c.args.limits)) c.args.count c.loop.counter c.loop.micros.items c.loop.rest.now c.in_ok-m.m c.in_ok-m.after.now _ c.loop-test.true (same_before (micro_at (bounds_in c.args.limits)) _ _ c.loop.rest.now _ c.deref.ensures.value c.in_ok-m.ensures) c.loop.invariant)

pub returns : goal.returns
returns c = is_done (micro_at (bounds_in c.args.limits)) c.args.count c.loop.counter c.loop.micros.items c.loop.rest.now _ c.loop-test.false c.loop.invariant
