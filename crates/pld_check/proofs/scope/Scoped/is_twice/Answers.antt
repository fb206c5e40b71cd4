use Rattle.std.proofs.Common.{ap, ◌∙◌}
use Rattle.pld_check.specs.Uses.{declarations}
use Rattle.pld_check.specs.Scopes.{is_again}
use Rattle.pld_check.proofs.Scoping.{is_twice_told}
use Rattle.pld_check.proofs.scope.Scoped.is_twice.Goals as goal

pub returns : goal.returns
returns c = c.is_again.ensures ∙ ap (λ o. is_again o c.args.at) c.declared.ensures ∙ is_twice_told c.args.name.now (declarations c.args.self.now) c.args.at
