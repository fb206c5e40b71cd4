use Rattle.std.proofs.Common.{sym, subst}
use Rattle.pld_ast.specs.Resolve.{program_of}
use Rattle.pld_check.specs.Known.{AreFilled}
use Rattle.pld_source.proofs.Readings.{checked_so}
use Rattle.pld_source.proofs.read.checked.Goals as goal

pub check-requires : goal.check-requires
check-requires c = subst (λ x. AreFilled (program_of x).lengths) (sym c.in-Ok.ensures) c.requires

pub returns-in-Ok : goal.returns-in-Ok
returns-in-Ok c = checked_so c.args.op c.in-Ok.scoped c.in-Ok.ensures c.check.result c.check.ensures.exact
