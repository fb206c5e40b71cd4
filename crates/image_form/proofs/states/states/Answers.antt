use Rattle.std.proofs.Common.{◌≡◌, ◌++◌, ◌∷◌, [], map}
use Rattle.std.proofs.lemmas.Result.{err_from_is_err_and}
use Rattle.std.proofs.lemmas.List.{map_push}
use Rattle.fsm_core.specs.Table.{stage_in}
use Rattle.image_form.specs.Tables.{state_at}
use Rattle.image_form.specs.Views.{bounds_in}
use Rattle.image_form.proofs.Many.{goes_on, fails_there, is_done}
use Rattle.image_form.proofs.states.states.Goals as goal

pub returns-in_err-state : goal.returns-in_err-state
returns-in_err-state c =
    let p = err_from_is_err_and c.from_residual.result c.from_residual.ensures.1 in
    rw (p.1, p.2) (fails_there c.in_err-state.field-0.0 (λ before. state_at (bounds_in c.args.limits)) c.args.count c.loop.counter (map stage_in c.loop.states.items) c.loop.rest.now _ c.loop-test.true c.in_err-state.ensures c.loop.invariant)

pub loop-preserved : goal.loop-preserved
loop-preserved c =
    let s = c.in_ok-state.state in
    let e : map stage_in c.push.new.self.items ≡ map stage_in c.loop.states.items ++ stage_in s ∷ [] = rw c.in_ok-push.ensures.items (map_push stage_in c.loop.states.items s) in
    rw e (goes_on (λ before. state_at (bounds_in c.args.limits)) c.args.count c.loop.counter (map stage_in c.loop.states.items) c.loop.rest.now (stage_in s) c.in_ok-state.after.now _ c.loop-test.true c.in_ok-state.ensures c.loop.invariant)

pub returns : goal.returns
returns c = is_done (λ before. state_at (bounds_in c.args.limits)) c.args.count c.loop.counter (map stage_in c.loop.states.items) c.loop.rest.now _ c.loop-test.false c.loop.invariant
