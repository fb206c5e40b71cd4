-- Names that are declared, on the syntax.
use Rattle.std.specs.Prelude.{ℕ, ◌<◌, ◌≤◌, List, length, slice_index}
use Rattle.pld_base.specs.declared.event.Side.{Side}
use Rattle.pld_ast.specs.declared.tree.Target.{Target}
use Rattle.pld_ast.specs.declared.tree.Target.TheVariants as target
use Rattle.pld_ast.specs.declared.tree.Operator.{Operator}
use Rattle.pld_ast.specs.Resolve.{scalar_no, array_no, place_in, ports_at, value_in, declared_in, program_of}
use Rattle.pld_ast.specs.Sound.{IsKnownValue}

-- there is a scalar of this name
abbrev pub IsScalar : Operator → List ℕ → Type 0
IsScalar op name = scalar_no (declared_in op) name < (program_of op).scalars

-- there is an array of this name
abbrev pub IsArray : Operator → List ℕ → Type 0
IsArray op name = array_no (declared_in op) name < length (program_of op).lengths

-- there is a port of this side and name
abbrev pub IsPort : Operator → Side → List ℕ → Type 0
IsPort op side name = place_in (ports_at side op.ports) name < length (ports_at side op.ports)

-- the name of a target is declared, and so are those in its index
abbrev pub IsKnownTarget : Operator → Target → Type 0
IsKnownTarget op (target.Scalar u) = IsScalar op u.name
IsKnownTarget op (target.Element u i) = IsArray op u.name × IsKnownValue (program_of op) (value_in (declared_in op) i)

-- each array has a word at least
abbrev pub AreFilled : List ℕ → Type 0
AreFilled lengths = (t : ℕ) → t < length lengths → 1 ≤ slice_index lengths t
