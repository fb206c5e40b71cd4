use Rattle.std.proofs.Common.{◌≤◌, ◌-◌, length, take}
use Rattle.pld_io.specs.Outside.{Accepts}
use Rattle.pld_driver.proofs.answers.put_all.Given as goal

abbrev pub invariant-loop-done : goal.invariant-loop-done
invariant-loop-done g l = record {
  within : l.done ≤ length l.piece;
  put : Accepts (g.K.Sink.state l.fn.sink) (g.K.Sink.state l.sink) (take l.done l.piece);
}

abbrev pub decreases-loop-done : goal.decreases-loop-done
decreases-loop-done g l = length l.piece - l.done
