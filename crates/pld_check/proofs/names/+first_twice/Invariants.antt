use Rattle.std.proofs.Common.{length}
use Rattle.pld_check.proofs.names.+first_twice.Given as goal

abbrev pub decreases-first_twice : goal.decreases-first_twice
decreases-first_twice g l = length l.declarations.now
