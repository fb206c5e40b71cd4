-- An operator's names, looked up.
use Rattle.std.specs.Prelude.{ℕ, List, [], ◌∷◌, length, map, filter, Bool, true, false}
use Rattle.std.specs.List.{find, position_or_len}
use Rattle.std.specs.Option.{unwrap_or, option_map}
use Rattle.std.specs.Str.{bytes_eq}
use Rattle.pld_base.specs.declared.event.Side.{Side}
use Rattle.pld_base.specs.declared.event.Side.TheVariants.{In, Out}
use Rattle.pld_ast.specs.declared.tree.Ty.{Ty}
use Rattle.pld_ast.specs.declared.tree.Ty.TheVariants.{Int, Uint}
use Rattle.pld_ast.specs.declared.tree.UnOp.{UnOp}
use Rattle.pld_ast.specs.declared.tree.UnOp.TheVariants as un
use Rattle.pld_ast.specs.declared.tree.BinOp.{BinOp}
use Rattle.pld_ast.specs.declared.tree.BinOp.TheVariants as bin
use Rattle.pld_ast.specs.declared.tree.Port.{Port}
use Rattle.pld_ast.specs.declared.tree.Scalar.{Scalar}
use Rattle.pld_ast.specs.declared.tree.Array.{Array}
use Rattle.pld_ast.specs.declared.tree.Expr.{Expr, end_of-Expr, more_of-Expr}
use Rattle.pld_ast.specs.declared.tree.Expr.TheVariants.{Lit, Var, Element', Unary', Binary', Cast'}
use Rattle.pld_ast.specs.declared.tree.Target.{Target}
use Rattle.pld_ast.specs.declared.tree.Target.TheVariants as target
use Rattle.pld_ast.specs.declared.tree.Stmt.{Stmt, Row_of-Stmt, end_of-Stmt, more_of-Stmt}
use Rattle.pld_ast.specs.declared.tree.Stmt.TheVariants.{Assign, Read, Write, If', While', Return}
use Rattle.pld_ast.specs.declared.tree.Operator.{Operator}
use Rattle.pld_ast.specs.Program as p
use Rattle.pld_ast.specs.Program.{Sign, Signed, Unsigned, Value, Action, Program, Operation1, Operation2}

-- the place of a name in a list, and the length where it isn't there
abbrev pub place_in : List (List ℕ) → List ℕ → ℕ
place_in names n = position_or_len (λ m. bytes_eq m n) names

-- the type under a name in a list of variables, and signed where it isn't there
abbrev pub type_under : {A : Type 0} → (A → List ℕ) → (A → Ty) → List A → List ℕ → Ty
type_under name ty variables n = unwrap_or (option_map ty (find (λ v. bytes_eq (name v) n) variables)) Int

abbrev pub is_in : Side → Bool
is_in In = true
is_in Out = false

abbrev pub is_out : Side → Bool
is_out In = false
is_out Out = true

-- a port is of this side
abbrev pub is_at : Side → Port → Bool
is_at In q = is_in q.side
is_at Out q = is_out q.side

-- the names of the ports of one side, in their order
abbrev pub ports_at : Side → List Port → List (List ℕ)
ports_at side ports = map (λ q. q.name) (filter (is_at side) ports)

-- the declarations of an operator
pub record Names : Type 0 where
  pub ins : List (List ℕ)
  pub outs : List (List ℕ)
  pub scalars : List Scalar
  pub arrays : List Array

abbrev pub names_of : List Port → List Scalar → List Array → Names
names_of ports scalars arrays = record {
  ins = ports_at In ports;
  outs = ports_at Out ports;
  scalars = scalars;
  arrays = arrays;
}

abbrev pub scalar_no : Names → List ℕ → ℕ
scalar_no d n = place_in (map (λ s. s.name) d.scalars) n

abbrev pub array_no : Names → List ℕ → ℕ
array_no d n = place_in (map (λ a. a.name) d.arrays) n

abbrev pub scalar_type : List Scalar → List ℕ → Ty
scalar_type scalars n = type_under (λ s. s.name) (λ s. s.ty) scalars n

abbrev pub array_type : List Array → List ℕ → Ty
array_type arrays n = type_under (λ a. a.name) (λ a. a.ty) arrays n

-- unsigned where one of the two is
abbrev pub joined : Ty → Ty → Ty
joined Uint t = Uint
joined Int t = t

abbrev pub unary_type : UnOp → Ty → Ty
unary_type un.Neg t = t
unary_type un.Plus t = t
unary_type un.BitNot t = t
unary_type un.Not t = Int

abbrev pub binary_type : BinOp → Ty → Ty → Ty
binary_type bin.OrElse s t = Int
binary_type bin.AndAlso s t = Int
binary_type bin.Or s t = joined s t
binary_type bin.Xor s t = joined s t
binary_type bin.And s t = joined s t
binary_type bin.Eq s t = Int
binary_type bin.Ne s t = Int
binary_type bin.Lt s t = Int
binary_type bin.Le s t = Int
binary_type bin.Gt s t = Int
binary_type bin.Ge s t = Int
binary_type bin.Shl s t = s
binary_type bin.Shr s t = s
binary_type bin.Add s t = joined s t
binary_type bin.Sub s t = joined s t
binary_type bin.Mul s t = joined s t
binary_type bin.Div s t = joined s t
binary_type bin.Rem s t = joined s t

abbrev pub type_of : Names → Expr → Ty
type_of d (Lit v t) = t
type_of d (Var u) = scalar_type d.scalars u.name
type_of d (Element' u q (more_of-Expr e end_of-Expr)) = array_type d.arrays u.name
type_of d (Unary' o q (more_of-Expr e end_of-Expr)) = unary_type o (type_of d e)
type_of d (Binary' o q (more_of-Expr a end_of-Expr) r (more_of-Expr b end_of-Expr)) = binary_type o (type_of d a) (type_of d b)
type_of d (Cast' t q (more_of-Expr e end_of-Expr)) = t

abbrev pub sign_of : Ty → Sign
sign_of Int = Signed
sign_of Uint = Unsigned

-- a unary operation
abbrev pub op1_of : UnOp → Value → Value
op1_of un.Neg v = p.Op1 p.Negate v
op1_of un.Plus v = p.Op1 p.Keep v
op1_of un.BitNot v = p.Op1 p.Flip v
op1_of un.Not v = p.Op1 p.IsZero v

-- a binary operation, at its operands' types
abbrev pub op2_of : BinOp → Ty → Ty → Operation2
op2_of bin.OrElse s t = p.EitherOf
op2_of bin.AndAlso s t = p.BothOf
op2_of bin.Or s t = p.BitOr
op2_of bin.Xor s t = p.BitXor
op2_of bin.And s t = p.BitAnd
op2_of bin.Eq s t = p.Equal
op2_of bin.Ne s t = p.Unequal
op2_of bin.Lt s t = p.Less (sign_of (joined s t))
op2_of bin.Le s t = p.AtMost (sign_of (joined s t))
op2_of bin.Gt s t = p.More (sign_of (joined s t))
op2_of bin.Ge s t = p.AtLeast (sign_of (joined s t))
op2_of bin.Shl s t = p.ShiftLeft
op2_of bin.Shr s t = p.ShiftRight (sign_of s)
op2_of bin.Add s t = p.Plus
op2_of bin.Sub s t = p.Minus
op2_of bin.Mul s t = p.Times
op2_of bin.Div s t = p.Quotient (sign_of (joined s t))
op2_of bin.Rem s t = p.Remainder (sign_of (joined s t))

-- a value, with its names and types looked up; a cast keeps the bits
abbrev pub value_in : Names → Expr → Value
value_in d (Lit v t) = p.Number v
value_in d (Var u) = p.Scalar (scalar_no d u.name)
value_in d (Element' u q (more_of-Expr e end_of-Expr)) = p.Element (array_no d u.name) (value_in d e)
value_in d (Unary' o q (more_of-Expr e end_of-Expr)) = op1_of o (value_in d e)
value_in d (Binary' o q (more_of-Expr a end_of-Expr) r (more_of-Expr b end_of-Expr)) = p.Op2 (op2_of o (type_of d a) (type_of d b)) (value_in d a) (value_in d b)
value_in d (Cast' t q (more_of-Expr e end_of-Expr)) = p.Op1 p.Keep (value_in d e)

abbrev pub assigned : Names → Target → Expr → Action
assigned d (target.Scalar u) e = p.Assign (scalar_no d u.name) (value_in d e)
assigned d (target.Element u i) e = p.Store (array_no d u.name) (value_in d i) (value_in d e)

abbrev pub read_to : Names → Target → ℕ → Action
read_to d (target.Scalar u) q = p.Read (scalar_no d u.name) q
read_to d (target.Element u i) q = p.ReadInto (array_no d u.name) (value_in d i) q

abbrev mutual
  pub action_in : Names → Stmt → Action
  action_in d (Assign t e) = assigned d t e
  action_in d (Read t u) = read_to d t (place_in d.ins u.name)
  action_in d (Write u e) = p.Write (place_in d.outs u.name) (value_in d e)
  action_in d (If' e m a n b) = p.Choose (value_in d e) (row_in d a) (row_in d b)
  action_in d (While' e m body) = p.Repeat (value_in d e) (row_in d body)
  action_in d Return = p.Return

  pub row_in : {m : _} → Names → Row_of-Stmt m → Action
  row_in d end_of-Stmt = p.Skip
  row_in d (more_of-Stmt s rest) = p.Then (action_in d s) (row_in d rest)

-- a list of statements
abbrev pub block_in : Names → List Stmt → Action
block_in d [] = p.Skip
block_in d (s ∷ rest) = p.Then (action_in d s) (block_in d rest)

abbrev pub declared_in : Operator → Names
declared_in o = names_of o.ports o.scalars o.arrays

abbrev pub program_of : Operator → Program
program_of o = record {
  ins = length (declared_in o).ins;
  outs = length (declared_in o).outs;
  scalars = length o.scalars;
  lengths = map (λ a. a.len) o.arrays;
  body = block_in (declared_in o) o.body;
}
