-- Where a core stands at a state, as the code holds it.
use Rattle.std.specs.Prelude.{Bool, true, false}
use Rattle.fsm_core.specs.declared.stand.Stand.{Stand}
use Rattle.fsm_core.specs.declared.stand.Stand.TheVariants as stand
use Rattle.fsm_core.specs.declared.micro.State.{State}
use Rattle.fsm_core.specs.Shapes.{Stream, Quiet, Takes, Gives, stream_in}
use Rattle.fsm_core.specs.Machine.{is_over}

abbrev pub stand_by : Bool → Stream → Stand
stand_by true s = stand.Over
stand_by false Quiet = stand.Quiet
stand_by false (Takes p) = stand.Takes p
stand_by false (Gives p a) = stand.Gives p a

abbrev pub stand_of : State → Stand
stand_of s = stand_by (is_over s.micros.items s.next) (stream_in s.micros.items)
