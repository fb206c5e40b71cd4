-- The names of an operator: where each is declared, and where and as what each is used.
use Rattle.std.specs.Prelude.{ℕ, List, [], ◌∷◌, ◌++◌, map}
use Rattle.pld_base.specs.declared.event.Place.{Place}
use Rattle.pld_base.specs.declared.event.Side.{Side}
use Rattle.pld_base.specs.declared.event.Side.TheVariants as side
use Rattle.pld_ast.specs.declared.tree.Used.{Used}
use Rattle.pld_ast.specs.declared.tree.Port as tree_port
use Rattle.pld_ast.specs.declared.tree.Scalar as tree_scalar
use Rattle.pld_ast.specs.declared.tree.Array as tree_array
use Rattle.pld_ast.specs.declared.tree.Expr.{Expr, end_of-Expr, more_of-Expr}
use Rattle.pld_ast.specs.declared.tree.Expr.TheVariants.{Lit, Var, Element', Unary', Binary', Cast'}
use Rattle.pld_ast.specs.declared.tree.Target.{Target}
use Rattle.pld_ast.specs.declared.tree.Target.TheVariants as target
use Rattle.pld_ast.specs.declared.tree.Stmt.{Stmt, Row_of-Stmt, end_of-Stmt, more_of-Stmt}
use Rattle.pld_ast.specs.declared.tree.Stmt.TheVariants.{Assign, Read, Write, If', While', Return}
use Rattle.pld_ast.specs.declared.tree.Operator.{Operator}
use Rattle.pld_check.specs.declared.roles.Role.{Role}
use Rattle.pld_check.specs.declared.roles.Role.TheVariants.{Input, Output, Scalar, Array}

-- a name at its place, declared or used as this
pub record Mention : Type 0 where
  pub name : List ℕ
  pub at : Place
  pub role : Role

abbrev pub port_role : Side → Role
port_role side.In = Input
port_role side.Out = Output

abbrev pub of_port : tree_port.Port → Mention
of_port q = record { name = q.name; at = q.at; role = port_role q.side }

abbrev pub of_scalar : tree_scalar.Scalar → Mention
of_scalar s = record { name = s.name; at = s.at; role = Scalar }

abbrev pub of_array : tree_array.Array → Mention
of_array a = record { name = a.name; at = a.at; role = Array }

-- the names that an operator declares
abbrev pub declarations : Operator → List Mention
declarations op = map of_port op.ports ++ (map of_scalar op.scalars ++ map of_array op.arrays)

-- a use of a name as this
abbrev pub used_as : Role → Used → Mention
used_as role u = record { name = u.name; at = u.at; role = role }

-- the names that an expression uses
abbrev pub value_uses : Expr → List Mention
value_uses (Lit v t) = []
value_uses (Var u) = used_as Scalar u ∷ []
value_uses (Element' u q (more_of-Expr e end_of-Expr)) = used_as Array u ∷ value_uses e
value_uses (Unary' o q (more_of-Expr e end_of-Expr)) = value_uses e
value_uses (Binary' o q (more_of-Expr a end_of-Expr) r (more_of-Expr b end_of-Expr)) = value_uses a ++ value_uses b
value_uses (Cast' t q (more_of-Expr e end_of-Expr)) = value_uses e

-- the names that a target uses
abbrev pub target_uses : Target → List Mention
target_uses (target.Scalar u) = used_as Scalar u ∷ []
target_uses (target.Element u i) = used_as Array u ∷ value_uses i

-- the names that statements use
abbrev mutual
  pub uses : Stmt → List Mention
  uses (Assign t e) = target_uses t ++ value_uses e
  uses (Read t u) = target_uses t ++ used_as Input u ∷ []
  uses (Write u e) = used_as Output u ∷ value_uses e
  uses (If' e m a n b) = (value_uses e ++ row_uses a) ++ row_uses b
  uses (While' e m body) = value_uses e ++ row_uses body
  uses Return = []

  pub row_uses : {m : _} → Row_of-Stmt m → List Mention
  row_uses end_of-Stmt = []
  row_uses (more_of-Stmt s rest) = uses s ++ row_uses rest

abbrev pub block_uses : List Stmt → List Mention
block_uses [] = []
block_uses (s ∷ rest) = uses s ++ block_uses rest
