use Rattle.std.proofs.Common.{length, take, ◌+◌, ◌-◌, ◌≤◌, ◌≡◌, false}
use Rattle.pld_io.specs.Outside.{Gives}
use Rattle.pld_driver.specs.Reading.{limit}
use Rattle.pld_driver.specs.Moments.{IsReady, AnswersAll, point_of}
use Rattle.pld_driver.proofs.Endings.{first_point}
use Rattle.pld_driver.proofs.session.run.Given as goal

abbrev pub invariant-pieces : goal.invariant-pieces
invariant-pieces g l = record {
  most : l.most ≡ limit;
  took : Gives (g.S.Source.state l.fn.source) (g.S.Source.state l.source) l.text.items;
  within : length l.text.items ≤ l.most + 1;
  all : AnswersAll g.E.Engine.step g.E.Engine.fits false (take limit l.text.items) (first_point l.fn.engine l.fn.bench (g.K.Sink.state l.fn.sink))
      (point_of l.engine l.bench (g.K.Sink.state l.sink) l.place);
  ready : IsReady (take limit l.text.items) l.place l.bench.permits;
}

abbrev pub decreases-pieces : goal.decreases-pieces
decreases-pieces g l = l.most + 1 - length l.text.items
