use Rattle.std.proofs.Common.{refl}
use Rattle.pld_driver.specs.Moments.{point_of}
use Rattle.pld_driver.proofs.Walks.{Goes-refl, ends_quit, ends_stop, goes_on, ready_on}
use Rattle.pld_driver.proofs.answers.answer_whole.Goals as goal

pub statements-init : goal.statements-init
statements-init g c = record { ready = c.requires.ready; goes = Goes-refl _ _ _ _ _ c.requires.ready.within }

pub returns-then-quits-clause-ends : goal.returns-then-quits-clause-ends
returns-then-quits-clause-ends g c =
    ends_quit _ _ c.args.ended c.args.bytes.now _ (point_of c.statements.engine c.statements.bench (g.K.Sink.state c.statements.sink) c.statements.place)
    c.in-Ok-Some.given.said c.in-Ok-Some.given.blank c.in-Ok-Some.given.lines c.in-Ok-Some.given.used c.statements.invariant.goes (rw c.in-Ok-Some.field-0-is at c.in-Ok-Some.ensures) (cc)

pub statements-preserved : goal.statements-preserved
statements-preserved g c = record {
  ready = ready_on c.args.ended c.args.bytes.now c.statements.place c.in-Ok-Some.given.said c.in-Ok-Some.given.blank c.in-Ok-Some.given.lines c.in-Ok-Some.given.used _ _ c.statements.bench.permits _
      c.statements.invariant.ready (rw c.in-Ok-Some.field-0-is at c.in-Ok-Some.ensures) c.answer_one.ensures.few c.new-place.ensures.line c.new-place.ensures.seen c.new-place.ensures.in_text;
  goes = goes_on _ _ c.args.ended c.args.bytes.now _ (point_of c.statements.engine c.statements.bench (g.K.Sink.state c.statements.sink) c.statements.place) _
      c.in-Ok-Some.given.said c.in-Ok-Some.given.blank c.in-Ok-Some.given.lines c.in-Ok-Some.given.used c.in-Ok.refused
      c.statements.invariant.goes (rw c.in-Ok-Some.field-0-is at c.in-Ok-Some.ensures) c.statements.invariant.ready.within (cc) c.in-Ok.ensures.ok refl refl c.either-place.ensures;
}

pub returns-in-Err-answer_one-clause-ends : goal.returns-in-Err-answer_one-clause-ends
returns-in-Err-answer_one-clause-ends g c =
    ends_stop _ _ c.args.ended c.args.bytes.now _ (point_of c.statements.engine c.statements.bench (g.K.Sink.state c.statements.sink) c.statements.place) _
    c.in-Ok-Some.given.said c.in-Ok-Some.given.blank c.in-Ok-Some.given.lines c.in-Ok-Some.given.used c.in-Err-answer_one.stop
    c.statements.invariant.goes (rw c.in-Ok-Some.field-0-is at c.in-Ok-Some.ensures) (cc) c.in-Err-answer_one.ensures.err
