use Rattle.std.proofs.Common.{ap, ◌∙◌}
use Rattle.pld_check.specs.Uses.{used_as}
use Rattle.pld_check.specs.Faults.{use_fault}
use Rattle.pld_check.proofs.Scoping.{use_told}
use Rattle.pld_check.proofs.names.misused.Goals as goal

pub returns : goal.returns
returns c = use_told c.args.op.now c.args.role c.args.u.now c.use_fault.result (c.use_fault.ensures ∙ ap (λ o. use_fault o (used_as c.args.role c.args.u.now)) c.role_at.ensures)
