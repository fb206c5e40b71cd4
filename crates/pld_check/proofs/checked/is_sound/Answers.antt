use Rattle.pld_ast.specs.Resolve.{program_of}
use Rattle.pld_check.proofs.Telling.{sound_tells, same_test}
use Rattle.pld_check.proofs.checked.is_sound.Goals as goal

pub returns-clause-tested : goal.returns-clause-tested
returns-clause-tested c = same_test _ _ c.decide.ensures (sound_tells (program_of c.args.op.now))
