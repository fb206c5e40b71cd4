use Rattle.std.proofs.Common.{map}
use Rattle.fabric_run.specs.Entries.{entry_of}
use Rattle.fabric_core.proofs.Keeping.{slots_fit}
use Rattle.fabric_core.proofs.fabric.Fabric.over.Goals as goal

pub outcome-requires-clause-slots : goal.outcome-requires-clause-slots
outcome-requires-clause-slots c = slots_fit c.self.inside.plan (map entry_of c.self.inside.journal.items) c.self.inside.board c.self.invariant.0
