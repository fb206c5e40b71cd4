use Rattle.std.proofs.Common.{refl}
use Rattle.fabric_core.proofs.Passing.{plain_first}
use Rattle.fabric_core.proofs.plain.run_plain.Goals as goal

pub run-init : goal.run-init
run-init c =
    let p = plain_first c.args.fabric c.requires in
    record { plan = refl; plain = p.0; home = p.1 }
