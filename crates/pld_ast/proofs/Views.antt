-- Definitions on the syntax, at the variants as the code writes them.
use Rattle.std.proofs.Common.{◌≡◌, List, [], ◌∷◌, refl, ap, ◌∙◌}
use Rattle.pld_ast.specs.declared.tree.Ty.{Ty}
use Rattle.pld_ast.specs.declared.tree.UnOp.{UnOp}
use Rattle.pld_ast.specs.declared.tree.BinOp.{BinOp}
use Rattle.pld_ast.specs.declared.tree.Used.{Used}
use Rattle.pld_ast.specs.declared.tree.Expr.{Expr}
use Rattle.pld_ast.specs.declared.tree.Expr.TheVariants.{Element, Unary, Binary, Cast}
use Rattle.pld_ast.specs.declared.tree.Stmt.{Stmt}
use Rattle.pld_ast.specs.declared.tree.Stmt.TheVariants.{If, While}
use Rattle.pld_ast.specs.declared.tree.Stmt.TheBlock.{hidden-the_row-Stmt-0}
use Rattle.pld_ast.specs.Resolve.{Names, array_type, unary_type, binary_type, type_of, value_in, action_in, row_in, block_in, array_no, op1_of, op2_of}
use Rattle.pld_ast.specs.Program as p

pub type_of-Cast : (d : Names) (t : Ty) (e : Expr) → type_of d (Cast t e) ≡ t
unfolding Rattle.pld_ast.specs.declared.tree.Expr.TheBlock.hidden-the_row-Expr-0 denote.Hole.Carrier.hidden
type_of-Cast d t e = refl

pub type_of-Unary : (d : Names) (o : UnOp) (e : Expr) → type_of d (Unary o e) ≡ unary_type o (type_of d e)
unfolding Rattle.pld_ast.specs.declared.tree.Expr.TheBlock.hidden-the_row-Expr-0 denote.Hole.Carrier.hidden
type_of-Unary d o e = refl

pub type_of-Binary : (d : Names) (o : BinOp) (a b : Expr) → type_of d (Binary o a b) ≡ binary_type o (type_of d a) (type_of d b)
unfolding Rattle.pld_ast.specs.declared.tree.Expr.TheBlock.hidden-the_row-Expr-0 denote.Hole.Carrier.hidden
type_of-Binary d o a b = refl

pub type_of-Element : (d : Names) (v : Used) (e : Expr) → type_of d (Element v e) ≡ array_type d.arrays v.name
unfolding Rattle.pld_ast.specs.declared.tree.Expr.TheBlock.hidden-the_row-Expr-0 denote.Hole.Carrier.hidden
type_of-Element d v e = refl

pub value_in-Element : (d : Names) (v : Used) (e : Expr) → value_in d (Element v e) ≡ p.Element (array_no d v.name) (value_in d e)
unfolding Rattle.pld_ast.specs.declared.tree.Expr.TheBlock.hidden-the_row-Expr-0 denote.Hole.Carrier.hidden
value_in-Element d v e = refl

pub value_in-Unary : (d : Names) (o : UnOp) (e : Expr) → value_in d (Unary o e) ≡ op1_of o (value_in d e)
unfolding Rattle.pld_ast.specs.declared.tree.Expr.TheBlock.hidden-the_row-Expr-0 denote.Hole.Carrier.hidden
value_in-Unary d o e = refl

pub value_in-Binary : (d : Names) (o : BinOp) (a b : Expr) → value_in d (Binary o a b) ≡ p.Op2 (op2_of o (type_of d a) (type_of d b)) (value_in d a) (value_in d b)
unfolding Rattle.pld_ast.specs.declared.tree.Expr.TheBlock.hidden-the_row-Expr-0 denote.Hole.Carrier.hidden
value_in-Binary d o a b = refl

pub value_in-Cast : (d : Names) (t : Ty) (e : Expr) → value_in d (Cast t e) ≡ p.Op1 p.Keep (value_in d e)
unfolding Rattle.pld_ast.specs.declared.tree.Expr.TheBlock.hidden-the_row-Expr-0 denote.Hole.Carrier.hidden
value_in-Cast d t e = refl

row_is_block : (d : Names) (body : List Stmt) → row_in d (hidden-the_row-Stmt-0 body) ≡ block_in d body
unfolding Rattle.pld_ast.specs.declared.tree.Stmt.TheBlock.hidden-the_row-Stmt-0 denote.Hole.Carrier.hidden
row_is_block d [] = refl
row_is_block d (s ∷ rest) = ap (p.Then (action_in d s)) (row_is_block d rest)

pub action_in-While : (d : Names) (e : Expr) (body : List Stmt) → action_in d (While e body) ≡ p.Repeat (value_in d e) (block_in d body)
action_in-While d e body = ap (p.Repeat (value_in d e)) (row_is_block d body)

pub action_in-If : (d : Names) (e : Expr) (a b : List Stmt) → action_in d (If e a b) ≡ p.Choose (value_in d e) (block_in d a) (block_in d b)
action_in-If d e a b = ap (λ x. p.Choose (value_in d e) x (row_in d (hidden-the_row-Stmt-0 b))) (row_is_block d a) ∙ ap (p.Choose (value_in d e) (block_in d a)) (row_is_block d b)

pub ruleset views = (type_of-Element, type_of-Unary, type_of-Binary, type_of-Cast, value_in-Element, value_in-Unary, value_in-Binary, value_in-Cast, action_in-If, action_in-While)
