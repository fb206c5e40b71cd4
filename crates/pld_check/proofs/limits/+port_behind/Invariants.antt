use Rattle.std.proofs.Common.{length}
use Rattle.pld_check.proofs.limits.+port_behind.Given as goal

abbrev pub decreases-port_behind : goal.decreases-port_behind
decreases-port_behind l = length l.ports.now
