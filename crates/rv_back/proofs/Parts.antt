-- The code of an expression, by its parts.
use Rattle.std.proofs.Common.{◌≡◌, ℕ, List, [], ◌∷◌, ◌++◌, map, Bool, false, refl, sym, ap, ◌∙◌, append_assoc}
use Rattle.std.proofs.lemmas.List.{append-nil}
use Rattle.std.specs.Prelude.{pos, Result, Ok, Err, OnOk}
use Rattle.pld_ast.specs.declared.tree.Ty.{Ty}
use Rattle.pld_ast.specs.declared.tree.UnOp.{UnOp}
use Rattle.pld_ast.specs.declared.tree.UnOp.TheVariants as un
use Rattle.pld_ast.specs.declared.tree.BinOp.{BinOp}
use Rattle.pld_ast.specs.declared.tree.Used.{Used}
use Rattle.pld_ast.specs.declared.tree.Expr.{Expr}
use Rattle.pld_ast.specs.declared.tree.Expr.TheVariants.{Element, Unary, Binary, Cast}
use Rattle.pld_ast.specs.declared.tree.Array.{Array}
use Rattle.pld_ast.specs.declared.tree.Target.{Target}
use Rattle.pld_ast.specs.declared.tree.Target.TheVariants as target
use Rattle.pld_ast.specs.declared.tree.Operator.{Operator}
use Rattle.pld_ast.specs.Program.{Value}
use Rattle.pld_ast.specs.Resolve.{Names, op1_of, op2_of, type_of, array_no, place_in, read_to, value_in, declared_in, program_of}
use Rattle.pld_ast.proofs.Views.{value_in-Element, value_in-Unary, value_in-Binary, value_in-Cast}
use Rattle.rv_isa.specs.declared.instr.Instr.{Instr}
use Rattle.rv_isa.specs.declared.instr.Instr.TheVariants.{Lw}
use Rattle.rv_back.specs.Code.{address, read_at, action_code, is_short, set_aside, bring_back, op2_code, value_code}
use Rattle.rv_back.specs.Form.{un_code, expr_code}

-- a fact of an Ok, by another one
pub on_ok : {A E P Q : Type 0} → (r : Result A E) → (P → Q) → OnOk r P → OnOk r Q
on_ok (Ok x) f h = f h
on_ok (Err e) f h = tt

-- two stretches of code, one after the other
pub joins : (code code1 code2 a b : List Instr) → code1 ≡ code ++ a → code2 ≡ code1 ++ b → code2 ≡ code ++ (a ++ b)
joins code code1 code2 a b e1 e2 = e2 ∙ ap (λ x. x ++ b) e1 ∙ append_assoc code a b

short_op1 : (o : UnOp) (v : Value) → false ≡ is_short (op1_of o v)
short_op1 un.Neg v = refl
short_op1 un.Plus v = refl
short_op1 un.BitNot v = refl
short_op1 un.Not v = refl

pub short_element : (d : Names) (e : Expr) (u : Used) (i : Expr) → e ≡ Element u i → false ≡ is_short (value_in d e)
short_element d e u i h = sym (ap is_short (ap (value_in d) h ∙ value_in-Element d u i))

pub short_unary : (d : Names) (e : Expr) (o : UnOp) (a : Expr) → e ≡ Unary o a → false ≡ is_short (value_in d e)
short_unary d e o a h = short_op1 o (value_in d a) ∙ sym (ap is_short (ap (value_in d) h ∙ value_in-Unary d o a))

pub short_binary : (d : Names) (e : Expr) (o : BinOp) (a b : Expr) → e ≡ Binary o a b → false ≡ is_short (value_in d e)
short_binary d e o a b h = sym (ap is_short (ap (value_in d) h ∙ value_in-Binary d o a b))

pub short_cast : (d : Names) (e : Expr) (t : Ty) (a : Expr) → e ≡ Cast t a → false ≡ is_short (value_in d e)
short_cast d e t a h = sym (ap is_short (ap (value_in d) h ∙ value_in-Cast d t a))

un_is : (l : List ℕ) (o : UnOp) (v : Value) → value_code l v ++ un_code o ≡ value_code l (op1_of o v)
un_is l un.Neg v = refl
un_is l un.Plus v = refl
un_is l un.BitNot v = refl
un_is l un.Not v = refl

module _ (op : Operator) where
  pub cast_code : (code code1 : List Instr) (e a a' : Expr) (t : Ty) → e ≡ Cast t a → a' ≡ a → code1 ≡ code ++ expr_code op a' → code1 ≡ code ++ expr_code op e
  cast_code code code1 e a a' t e1 e2 h =
      let l = (program_of op).lengths in
      let d = declared_in op in
      h ∙ ap (λ x. code ++ expr_code op x) e2
      ∙ ap (λ x. code ++ x) (sym (append-nil (expr_code op a)) ∙ sym (ap (value_code l) (ap (value_in d) e1 ∙ value_in-Cast d t a)))

  pub unary_code : (code code1 code2 : List Instr) (e a a' : Expr) (o : UnOp) → e ≡ Unary o a → a' ≡ a → code1 ≡ code ++ expr_code op a' → code2 ≡ code1 ++ un_code o → code2 ≡ code ++ expr_code op e
  unary_code code code1 code2 e a a' o e1 e2 h1 h2 =
      let l = (program_of op).lengths in
      let d = declared_in op in
      joins code code1 code2 (expr_code op a) (un_code o) (h1 ∙ ap (λ x. code ++ expr_code op x) e2) h2
      ∙ ap (λ x. code ++ x) (un_is l o (value_in d a) ∙ sym (ap (value_code l) (ap (value_in d) e1 ∙ value_in-Unary d o a)))

  -- the address of an element, with the arrays as the code takes them
  pub addressed : (code1 code2 : List Instr) (arrays : List Array) (u : Used) (t : ℕ) → arrays ≡ op.arrays → t ≡ place_in (map (λ a. a.name) arrays) u.name
      → code2 ≡ code1 ++ address (map (λ a. a.len) arrays) t → code2 ≡ code1 ++ address (program_of op).lengths (array_no (declared_in op) u.name)
  addressed code1 code2 arrays u t e1 e2 h =
      h ∙ ap (λ x. code1 ++ address (map (λ a. a.len) arrays) x) e2
      ∙ ap (λ x. code1 ++ address (map (λ a. a.len) x) (place_in (map (λ a. a.name) x) u.name)) e1

  pub read_into_code : (code code1 code2 code3 : List Instr) (to : Target) (u : Used) (i : Expr) (q : ℕ) → to ≡ target.Element u i
      → code1 ≡ code ++ expr_code op i → code2 ≡ code1 ++ address (program_of op).lengths (array_no (declared_in op) u.name) → code3 ≡ code2 ++ read_at q
      → code3 ≡ code ++ action_code (program_of op).lengths (read_to (declared_in op) to q)
  read_into_code code code1 code2 code3 to u i q e h1 h2 h3 =
      joins code code1 code3 _ _ h1 (joins code1 code2 code3 _ _ h2 h3) ∙ ap (λ x. code ++ action_code (program_of op).lengths (read_to (declared_in op) x q)) (sym e)

  pub element_code : (code code1 code2 code3 : List Instr) (e i i' : Expr) (u : Used) → e ≡ Element u i → i' ≡ i
      → code1 ≡ code ++ expr_code op i' → code2 ≡ code1 ++ address (program_of op).lengths (array_no (declared_in op) u.name) → code3 ≡ code2 ++ Lw 10 10 (pos 0) ∷ [] → code3 ≡ code ++ expr_code op e
  element_code code code1 code2 code3 e i i' u e1 e2 h1 h2 h3 =
      let l = (program_of op).lengths in
      let d = declared_in op in
      let a = address l (array_no d u.name) in
      joins code code1 code3 (expr_code op i) (a ++ Lw 10 10 (pos 0) ∷ []) (h1 ∙ ap (λ x. code ++ expr_code op x) e2) (joins code1 code2 code3 a (Lw 10 10 (pos 0) ∷ []) h2 h3)
      ∙ ap (λ x. code ++ x) (sym (ap (value_code l) (ap (value_in d) e1 ∙ value_in-Element d u i)))

  pub binary_code : (code code1 code2 code3 code4 code5 : List Instr) (e a a' b b' : Expr) (o : BinOp) (s t : Ty) (short : Bool)
      → e ≡ Binary o a b → a' ≡ a → b' ≡ b → s ≡ type_of (declared_in op) a' → t ≡ type_of (declared_in op) b' → short ≡ is_short (value_in (declared_in op) b')
      → code1 ≡ code ++ expr_code op a' → code2 ≡ code1 ++ set_aside short → code3 ≡ code2 ++ expr_code op b' → code4 ≡ code3 ++ bring_back short → code5 ≡ code4 ++ op2_code (op2_of o s t)
      → code5 ≡ code ++ expr_code op e
  binary_code code code1 code2 code3 code4 code5 e a a' b b' o s t short e1 e2 e3 e4 e5 e6 h1 h2 h3 h4 h5 =
      let l = (program_of op).lengths in
      let d = declared_in op in
      joins code code1 code5 _ _ h1 (joins code1 code2 code5 _ _ h2 (joins code2 code3 code5 _ _ h3 (joins code3 code4 code5 _ _ h4 h5)))
      ∙ ap (λ x. code ++ (expr_code op a' ++ (set_aside x ++ (expr_code op b' ++ (bring_back x ++ op2_code (op2_of o s t)))))) e6
      ∙ ap (λ x. code ++ (expr_code op a' ++ (set_aside (is_short (value_in d b')) ++ (expr_code op b' ++ (bring_back (is_short (value_in d b')) ++ op2_code (op2_of o x t)))))) e4
      ∙ ap (λ x. code ++ (expr_code op a' ++ (set_aside (is_short (value_in d b')) ++ (expr_code op b' ++ (bring_back (is_short (value_in d b')) ++ op2_code (op2_of o (type_of d a') x)))))) e5
      ∙ ap (λ x. code ++ (expr_code op x ++ (set_aside (is_short (value_in d b')) ++ (expr_code op b' ++ (bring_back (is_short (value_in d b')) ++ op2_code (op2_of o (type_of d x) (type_of d b'))))))) e2
      ∙ ap (λ x. code ++ (expr_code op a ++ (set_aside (is_short (value_in d x)) ++ (expr_code op x ++ (bring_back (is_short (value_in d x)) ++ op2_code (op2_of o (type_of d a) (type_of d x))))))) e3
      ∙ ap (λ x. code ++ x) (sym (ap (value_code l) (ap (value_in d) e1 ∙ value_in-Binary d o a b)))
