use Rattle.pld_ast.specs.Resolve.{program_of}
use Rattle.pld_ast.proofs.TraceLaws.{is_process}
use Rattle.pld_ast.proofs.laws.operators_are_processes.Goals as goal

pub returns : goal.returns
returns c = is_process (program_of c.args.op.now)
