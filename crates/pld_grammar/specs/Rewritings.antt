-- What is written short, as the statements that it means.
use Rattle.std.specs.Prelude.{List, [], ◌∷◌}
use Rattle.pld_ast.specs.declared.tree.Ty.TheVariants.{Int}
use Rattle.pld_ast.specs.declared.tree.BinOp.{BinOp}
use Rattle.pld_ast.specs.declared.tree.Expr.{Expr}
use Rattle.pld_ast.specs.declared.tree.Expr.TheVariants.{Lit, Var, Element, Binary}
use Rattle.pld_ast.specs.declared.tree.Target.{Target}
use Rattle.pld_ast.specs.declared.tree.Target.TheVariants as target
use Rattle.pld_ast.specs.declared.tree.Stmt.{Stmt}
use Rattle.pld_ast.specs.declared.tree.Stmt.TheVariants.{Assign}
use Rattle.pld_ast.specs.declared.tree.Scalar.{Scalar}
use Rattle.pld_ast.specs.declared.tree.Array.{Array}

abbrev pub one_step : Stmt → List Stmt
one_step s = s ∷ []

-- a target, read
abbrev pub value_at : Target → Expr
value_at (target.Scalar x) = Var x
value_at (target.Element x i) = Element x i

-- `x op= e`
abbrev pub updated : Target → BinOp → Expr → Stmt
updated x o e = Assign x (Binary o (value_at x) e)

abbrev pub one : Expr
one = Lit 1 Int

-- a declaration
pub data Declared : Type 0 where
  AScalar : Scalar → Declared
  AnArray : Array → Declared

abbrev pub scalars_of : List Declared → List Scalar
scalars_of [] = []
scalars_of (AScalar s ∷ vs) = s ∷ scalars_of vs
scalars_of (AnArray a ∷ vs) = scalars_of vs

abbrev pub arrays_of : List Declared → List Array
arrays_of [] = []
arrays_of (AScalar s ∷ vs) = arrays_of vs
arrays_of (AnArray a ∷ vs) = a ∷ arrays_of vs
