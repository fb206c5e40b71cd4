use Rattle.fabric_keeps.proofs.Offering.{what_comes_arrives}
use Rattle.fabric_keeps.proofs.Configured.{running_of}
use Rattle.fabric_keeps.proofs.Serving.{read_has_row, write_has_row, input_has_row, output_has_row}
use Rattle.fabric_keeps.proofs.calls.calls_are_allowed.Goals as goal

pub returns : goal.returns
returns g c = record {
  accept = λ setup st i p sound carries w l here own. what_comes_arrives setup st i p sound carries w l here own;
  read = λ setup st i seat p k sound w l e held end. read_has_row setup st i seat p k sound w l e held end;
  write = λ setup st i seat p k word sound w l e held end. write_has_row setup st i seat p k word sound w l e held end;
  input = λ setup st k sound w over l. input_has_row setup st k sound (running_of setup st sound w.world over) l;
  output = λ setup st j sound w over l. output_has_row setup st j sound (running_of setup st sound w.world over) l;
}
