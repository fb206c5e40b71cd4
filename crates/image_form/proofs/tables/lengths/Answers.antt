use Rattle.std.proofs.lemmas.Result.{err_from_is_err_and}
use Rattle.image_form.specs.Tables.{length_at}
use Rattle.image_form.proofs.Many.{goes_on, ends, stopped, is_done, room_is, room_after}
use Rattle.image_form.proofs.tables.lengths.Goals as goal

pub returns-in_err-length : goal.returns-in_err-length
returns-in_err-length c =
    let p = err_from_is_err_and c.from_residual.result c.from_residual.ensures.1 in
    rw p.1 (stopped c.in_err-length.field-0.0 _ p.0 (ends length_at c.args.count c.loop.counter c.loop.lengths.items c.loop.rest.now c.in_err-length.field-0.0.left _ c.loop-test.true (room_is c.loop.room c.loop.lengths.items c.loop.rest.now _ c.loop.invariant.1 c.in_err-length.ensures.value) c.loop.invariant.0) p.2)

pub loop-preserved : goal.loop-preserved
loop-preserved c =
    rw c.in_ok-push.ensures.items (
      goes_on length_at c.args.count c.loop.counter c.loop.lengths.items c.loop.rest.now c.in_ok-length.length c.in_ok-length.after.now _ c.loop-test.true (room_is c.loop.room c.loop.lengths.items c.loop.rest.now _ c.loop.invariant.1 c.in_ok-length.ensures.value) c.loop.invariant.0,
      room_after c.loop.room c.in_ok-length.length c.loop.lengths.items c.in_ok-length.ensures.bound c.loop.invariant.1,
    )

pub returns : goal.returns
returns c = is_done length_at c.args.count c.loop.counter c.loop.lengths.items c.loop.rest.now _ c.loop-test.false c.loop.invariant.0
