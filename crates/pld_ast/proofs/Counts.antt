-- The nodes of a tree, by those of its parts.
use Rattle.std.proofs.Common.{◌≡◌, ◌+◌, ℕ, List, refl, ap, sym, ◌∙◌}
use Rattle.pld_ast.specs.declared.tree.Ty.{Ty}
use Rattle.pld_ast.specs.declared.tree.UnOp.{UnOp}
use Rattle.pld_ast.specs.declared.tree.UnOp.TheVariants as un
use Rattle.pld_ast.specs.declared.tree.BinOp.{BinOp}
use Rattle.pld_ast.specs.declared.tree.Used.{Used}
use Rattle.pld_ast.specs.declared.tree.Expr.{Expr}
use Rattle.pld_ast.specs.declared.tree.Expr.TheVariants.{Element, Unary, Binary, Cast}
use Rattle.pld_ast.specs.declared.tree.Target.{Target}
use Rattle.pld_ast.specs.declared.tree.Target.TheVariants as target
use Rattle.pld_ast.specs.declared.tree.Stmt.{Stmt}
use Rattle.pld_ast.specs.declared.tree.Stmt.TheVariants.{Assign, Read, If, While}
use Rattle.pld_ast.specs.Program.{Value}
use Rattle.pld_ast.specs.Nodes.{value_nodes, action_nodes, target_nodes}
use Rattle.pld_ast.specs.Resolve.{Names, value_in, action_in, block_in, op1_of, assigned, read_to}
use Rattle.pld_ast.proofs.Views.{value_in-Element, value_in-Unary, value_in-Binary, value_in-Cast, action_in-If, action_in-While}

abbrev pub nodes_in : Names → Expr → ℕ
nodes_in d e = value_nodes (value_in d e)

of_unary : (o : UnOp) (v : Value) → value_nodes (op1_of o v) ≡ 1 + value_nodes v
of_unary un.Neg v = refl
of_unary un.Plus v = refl
of_unary un.BitNot v = refl
of_unary un.Not v = refl

pub at_element : (d : Names) (e a got : Expr) (v : Used) → e ≡ Element v a → got ≡ a → nodes_in d e ≡ 1 + nodes_in d got
at_element d e a got v is g = ap (nodes_in d) is ∙ ap value_nodes (value_in-Element d v a) ∙ ap (λ x. 1 + nodes_in d x) (sym g)

pub at_unary : (d : Names) (e a got : Expr) (o : UnOp) → e ≡ Unary o a → got ≡ a → nodes_in d e ≡ 1 + nodes_in d got
at_unary d e a got o is g = ap (nodes_in d) is ∙ ap value_nodes (value_in-Unary d o a) ∙ of_unary o (value_in d a) ∙ ap (λ x. 1 + nodes_in d x) (sym g)

pub at_cast : (d : Names) (e a got : Expr) (t : Ty) → e ≡ Cast t a → got ≡ a → nodes_in d e ≡ 1 + nodes_in d got
at_cast d e a got t is g = ap (nodes_in d) is ∙ ap value_nodes (value_in-Cast d t a) ∙ ap (λ x. 1 + nodes_in d x) (sym g)

pub at_binary : (d : Names) (e a b got got' : Expr) (o : BinOp) → e ≡ Binary o a b → got ≡ a → got' ≡ b → nodes_in d e ≡ 1 + nodes_in d got + nodes_in d got'
at_binary d e a b got got' o is g g' =
    ap (nodes_in d) is ∙ ap value_nodes (value_in-Binary d o a b)
    ∙ ap (λ x. 1 + nodes_in d x + nodes_in d b) (sym g) ∙ ap (λ x. 1 + nodes_in d got + nodes_in d x) (sym g')

of_assigned : (d : Names) (t : Target) (e : Expr) → action_nodes (assigned d t e) ≡ 1 + target_nodes d t + nodes_in d e
of_assigned d (target.Scalar u) e = refl
of_assigned d (target.Element u i) e = refl

of_read : (d : Names) (t : Target) (q : ℕ) → action_nodes (read_to d t q) ≡ 1 + target_nodes d t
of_read d (target.Scalar u) q = refl
of_read d (target.Element u i) q = refl

pub at_assign : (d : Names) (s : Stmt) (t : Target) (e : Expr) → s ≡ Assign t e → action_nodes (action_in d s) ≡ 1 + target_nodes d t + nodes_in d e
at_assign d s t e is = ap (λ x. action_nodes (action_in d x)) is ∙ of_assigned d t e

pub at_read : (d : Names) (s : Stmt) (t : Target) (u : Used) → s ≡ Read t u → action_nodes (action_in d s) ≡ 1 + target_nodes d t
at_read d s t u is = ap (λ x. action_nodes (action_in d x)) is ∙ of_read d t _

pub at_if : (d : Names) (s : Stmt) (e : Expr) (a b got got' : List Stmt) → s ≡ If e a b → got ≡ a → got' ≡ b → action_nodes (action_in d s) ≡ 1 + nodes_in d e + action_nodes (block_in d got) + action_nodes (block_in d got')
at_if d s e a b got got' is g g' =
    ap (λ x. action_nodes (action_in d x)) is ∙ ap action_nodes (action_in-If d e a b)
    ∙ ap (λ x. 1 + nodes_in d e + action_nodes (block_in d x) + action_nodes (block_in d b)) (sym g)
    ∙ ap (λ x. 1 + nodes_in d e + action_nodes (block_in d got) + action_nodes (block_in d x)) (sym g')

pub at_while : (d : Names) (s : Stmt) (e : Expr) (a got : List Stmt) → s ≡ While e a → got ≡ a → action_nodes (action_in d s) ≡ 1 + nodes_in d e + action_nodes (block_in d got)
at_while d s e a got is g =
    ap (λ x. action_nodes (action_in d x)) is ∙ ap action_nodes (action_in-While d e a)
    ∙ ap (λ x. 1 + nodes_in d e + action_nodes (block_in d x)) (sym g)
