use Rattle.fabric_keeps.proofs.Carriers.{runs_well, network_ran}
use Rattle.fabric_keeps.proofs.calls.carriers_run_well.Goals as goal

pub returns : goal.returns
returns g c = record {
  serves = λ setup most sound carrier. runs_well setup most sound carrier;
  ran = λ setup most journal sound carrier l. network_ran setup most sound carrier journal l;
}
