use Rattle.std.proofs.Common.{ap, ◌∙◌}
use Rattle.pld_check.specs.Faults.{limit_fault}
use Rattle.pld_check.proofs.Sounds.{sound_of}
use Rattle.pld_check.proofs.limits.source_fault.Goals as goal

pub returns-in-None-clause-sound : goal.returns-in-None-clause-sound
returns-in-None-clause-sound c = sound_of c.args.op.now c.limit_fault.result (c.limit_fault.ensures ∙ ap limit_fault c.operator.ensures) c.requires c.in-None.ensures.known
