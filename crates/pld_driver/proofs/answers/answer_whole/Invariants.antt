use Rattle.std.proofs.Common.{length, ◌-◌, ◌≤◌}
use Rattle.pld_driver.specs.Moments.{IsReady, Goes, point_of}
use Rattle.pld_driver.proofs.answers.answer_whole.Given as goal

abbrev pub invariant-statements : goal.invariant-statements
invariant-statements g l = record {
  ready : IsReady l.bytes l.place l.bench.permits;
  goes : Goes g.E.Engine.step g.E.Engine.fits l.ended l.bytes (point_of l.fn.engine l.fn.bench (g.K.Sink.state l.fn.sink) l.fn.place) (point_of l.engine l.bench (g.K.Sink.state l.sink) l.place);
}

abbrev pub decreases-statements : goal.decreases-statements
decreases-statements g l = length l.bytes - l.place.start
