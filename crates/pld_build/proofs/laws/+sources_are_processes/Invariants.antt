use Rattle.std.proofs.Common.{length}
use Rattle.pld_build.proofs.laws.+sources_are_processes.Given as goal

abbrev pub decreases-sources_are_processes : goal.decreases-sources_are_processes
decreases-sources_are_processes l = length l.sources.now
