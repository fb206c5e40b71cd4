use Rattle.std.proofs.Common.{sym, subst, ◌≡◌}
use Rattle.pld_mean.specs.Vars.{state_of, sizes_of, IsSpot, set_spot}
use Rattle.pld_mean.proofs.vars.Vars.put.Goals as goal

pub returns-in-Scalar-clause-state : goal.returns-in-Scalar-clause-state
returns-in-Scalar-clause-state c = λ ins.
    subst (λ spot. IsSpot (sizes_of c.args.self.now) spot → state_of ins c.set_scalar.new.self ≡ set_spot (state_of ins c.args.self.now) spot c.args.v) (sym c.in-Scalar.is) (c.set_scalar.ensures.state ins)

pub returns-in-Element-clause-state : goal.returns-in-Element-clause-state
returns-in-Element-clause-state c = λ ins.
    subst (λ spot. IsSpot (sizes_of c.args.self.now) spot → state_of ins c.set_element.new.self ≡ set_spot (state_of ins c.args.self.now) spot c.args.v) (sym c.in-Element.is) (λ k. c.set_element.ensures.state ins k.0 k.1)
