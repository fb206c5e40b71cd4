-- The value of an expression, by its parts.
use Rattle.std.proofs.Common.{◌≡◌, ℕ, ◌<◌, List, length, refl, sym, ap, ◌∙◌, subst}
use Rattle.pld_ast.specs.declared.tree.Ty.{Ty}
use Rattle.pld_ast.specs.declared.tree.UnOp.{UnOp}
use Rattle.pld_ast.specs.declared.tree.UnOp.TheVariants as un
use Rattle.pld_ast.specs.declared.tree.BinOp.{BinOp}
use Rattle.pld_ast.specs.declared.tree.Used.{Used}
use Rattle.pld_ast.specs.declared.tree.Expr.{Expr}
use Rattle.pld_ast.specs.declared.tree.Expr.TheVariants.{Element, Unary, Binary, Cast}
use Rattle.pld_ast.specs.Program.{Program, Value, Op1, Keep}
use Rattle.pld_ast.specs.Meaning.{State, binary_of, index_in, value_of}
use Rattle.pld_ast.specs.Resolve.{Names, op1_of, op2_of, type_of, array_no, value_in}
use Rattle.pld_ast.specs.Sound.{IsKnownValue}
use Rattle.pld_ast.proofs.Views.{value_in-Element, value_in-Unary, value_in-Binary, value_in-Cast}
use Rattle.pld_ast.specs.Ops.{one_of}

one_value : (l : List ℕ) (st : State) (o : UnOp) (v : Value) → value_of l (op1_of o v) st ≡ one_of o (value_of l v st)
one_value l st un.Neg v = refl
one_value l st un.Plus v = refl
one_value l st un.BitNot v = refl
one_value l st un.Not v = refl

one_known : (g : Program) (o : UnOp) (v : Value) → IsKnownValue g (op1_of o v) → IsKnownValue g v
one_known g un.Neg v h = h
one_known g un.Plus v h = h
one_known g un.BitNot v h = h
one_known g un.Not v h = h

-- what an evaluation owes
abbrev pub IsValue : Program → Names → State → Expr → ℕ → Type 0
IsValue g d st e r = IsKnownValue g (value_in d e) → r ≡ value_of g.lengths (value_in d e) st

module _ (g : Program) (d : Names) (st : State) where
  -- an expression whose value is another's
  same_value : (e : Expr) (v : Value) (r : ℕ) → value_in d e ≡ v → (IsKnownValue g v → r ≡ value_of g.lengths v st) → IsValue g d st e r
  same_value e v r e1 h k = h (subst (IsKnownValue g) e1 k) ∙ sym (ap (λ x. value_of g.lengths x st) e1)

  got : (a a' : Expr) (r : ℕ) → a' ≡ a → IsValue g d st a' r → IsValue g d st a r
  got a a' r e h = subst (λ x. IsValue g d st x r) e h

  pub unary_value : (e a a' : Expr) (o : UnOp) (r r' : ℕ) → e ≡ Unary o a → a' ≡ a → IsValue g d st a' r → r' ≡ one_of o r → IsValue g d st e r'
  unary_value e a a' o r r' e1 e2 h e3 =
      same_value e (op1_of o (value_in d a)) r' (ap (value_in d) e1 ∙ value_in-Unary d o a) (λ k. e3 ∙ ap (one_of o) (got a a' r e2 h (one_known g o (value_in d a) k)) ∙ sym (one_value g.lengths st o (value_in d a)))

  pub cast_value : (e a a' : Expr) (t : Ty) (r : ℕ) → e ≡ Cast t a → a' ≡ a → IsValue g d st a' r → IsValue g d st e r
  cast_value e a a' t r e1 e2 h =
      same_value e (Op1 Keep (value_in d a)) r (ap (value_in d) e1 ∙ value_in-Cast d t a) (got a a' r e2 h)

  pub binary_value : (e a b a' b' : Expr) (o : BinOp) (s t : Ty) (ra rb r : ℕ) → e ≡ Binary o a b → s ≡ type_of d a → t ≡ type_of d b → a' ≡ a → b' ≡ b → IsValue g d st a' ra → IsValue g d st b' rb → r ≡ binary_of (op2_of o s t) ra rb → IsValue g d st e r
  binary_value e a b a' b' o s t ra rb r e1 es et ga gb ha hb e2 =
      same_value e _ r (ap (value_in d) e1 ∙ value_in-Binary d o a b) (λ k. e2 ∙ ap (λ x. binary_of (op2_of o x t) ra rb) es ∙ ap (λ x. binary_of (op2_of o (type_of d a) x) ra rb) et ∙ ap (λ x. binary_of (op2_of o (type_of d a) (type_of d b)) x rb) (got a a' ra ga ha k.0) ∙ ap (binary_of (op2_of o (type_of d a) (type_of d b)) (value_of g.lengths (value_in d a) st)) (got b b' rb gb hb k.1))

  -- an element that stands at this place of this array
  pub element_value : (e i i' : Expr) (u : Used) (t ri r : ℕ) → e ≡ Element u i → i' ≡ i → t ≡ array_no d u.name → IsValue g d st i' ri → (t < length g.lengths → r ≡ st.arrays t (index_in g.lengths t ri)) → IsValue g d st e r
  element_value e i i' u t ri r e1 e2 et h f =
      let at : array_no d u.name < length g.lengths → r ≡ st.arrays (array_no d u.name) (index_in g.lengths (array_no d u.name) ri) =
      subst (λ x. x < length g.lengths → r ≡ st.arrays x (index_in g.lengths x ri)) et f in
      same_value e _ r (ap (value_in d) e1 ∙ value_in-Element d u i) (λ k. at k.0 ∙ ap (λ x. st.arrays (array_no d u.name) (index_in g.lengths (array_no d u.name) x)) (got i i' ri e2 h k.1))
