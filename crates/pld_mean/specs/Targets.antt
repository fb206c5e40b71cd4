-- The variable that a target stands for.
use Rattle.std.specs.Prelude.{ℕ, List}
use Rattle.pld_ast.specs.declared.tree.Target.{Target}
use Rattle.pld_ast.specs.declared.tree.Target.TheVariants as target
use Rattle.pld_ast.specs.Meaning.{State, index_in, value_of}
use Rattle.pld_ast.specs.Resolve.{Names, scalar_no, array_no, value_in}
use Rattle.pld_mean.specs.declared.vars.Spot.{Spot}
use Rattle.pld_mean.specs.declared.vars.Spot.TheVariants.{Scalar, Element}

-- an element's index is that of this state
abbrev pub spot_of : Names → List ℕ → Target → State → Spot
spot_of d l (target.Scalar u) st = Scalar (scalar_no d u.name)
spot_of d l (target.Element u i) st = Element (array_no d u.name) (index_in l (array_no d u.name) (value_of l (value_in d i) st))
