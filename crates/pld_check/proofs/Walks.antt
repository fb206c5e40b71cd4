-- The first wrong name of a tree, by those of its parts.
use Rattle.std.proofs.Common.{◌≡◌, ℕ, ◌+◌, ◌<◌, List, ◌∷◌, [], ◌++◌, length, get_or, take, Bool, true, false, cond, Option, Some, None, refl, sym, ap, subst, ◌∙◌, arith, append_assoc}
use Rattle.std.specs.Prelude.{IfNone}
use Rattle.std.specs.List.{filter_map, cons_option}
use Rattle.std.proofs.lemmas.List.{take_more}
use Rattle.std.proofs.lemmas.List.Elements.{filter_map-append}
use Rattle.std.proofs.lemmas.Bool.Decides.{nat_tests}
use Rattle.pld_base.specs.declared.event.Place.{Place}
use Rattle.pld_base.specs.declared.fault.SourceFault.{SourceFault}
use Rattle.pld_base.specs.declared.event.Side.TheVariants.{In, Out}
use Rattle.pld_base.specs.Words.{IsWord}
use Rattle.pld_ast.specs.declared.tree.Ty.{Ty}
use Rattle.pld_ast.specs.declared.tree.UnOp.{UnOp}
use Rattle.pld_ast.specs.declared.tree.UnOp.TheVariants as un
use Rattle.pld_ast.specs.declared.tree.BinOp.{BinOp}
use Rattle.pld_ast.specs.declared.tree.Used.{Used}
use Rattle.pld_ast.specs.declared.tree.Expr.{Expr}
use Rattle.pld_ast.specs.declared.tree.Expr.TheVariants.{Lit, Var, Element, Unary, Binary, Cast}
use Rattle.pld_ast.specs.declared.tree.Target.{Target}
use Rattle.pld_ast.specs.declared.tree.Target.TheVariants as target
use Rattle.pld_ast.specs.declared.tree.Stmt.{Stmt}
use Rattle.pld_ast.specs.declared.tree.Stmt.TheVariants.{Assign, Read, Write, If, While}
use Rattle.pld_ast.specs.declared.tree.Stmt.TheBlock.{hidden-the_row-Stmt-0}
use Rattle.pld_ast.specs.declared.tree.Operator.{Operator}
use Rattle.pld_ast.specs.Program.{Value, Action}
use Rattle.pld_ast.specs.Resolve.{value_in, action_in, block_in, op1_of, assigned, read_to, place_in, declared_in, program_of}
use Rattle.pld_ast.specs.Sound.{IsKnownValue, IsKnown}
use Rattle.pld_ast.proofs.Views.{value_in-Element, value_in-Unary, value_in-Binary, value_in-Cast, action_in-If, action_in-While}
use Rattle.pld_check.specs.declared.roles.Role.TheVariants as role
use Rattle.pld_check.specs.Known.{IsPort, IsScalar, IsArray, IsKnownTarget}
use Rattle.pld_check.specs.Uses.{Mention, used_as, declarations, value_uses, target_uses, uses, row_uses, block_uses}
use Rattle.pld_check.specs.Faults.{precedes, place_of, first_of, earlier, least, twice_in, misused_in, first_twice, first_misused, told, wrong_names, Walked}

-- the order of places
by_test : {P : Type 0} → (t : Bool) → (t ≡ true → P) → (t ≡ false → P) → P
by_test true f g = f refl
by_test false f g = g refl

pub not_after : (p q r : Place) → precedes q p ≡ false → precedes r q ≡ false → precedes r p ≡ false
not_after p q r e f = grind (arith, nat_tests)

before_all : (p q r : Place) → precedes q p ≡ true → precedes r q ≡ true → precedes r p ≡ true
before_all p q r e f = grind (arith, nat_tests)

pub second_first : (f g : SourceFault) → precedes (place_of g) (place_of f) ≡ true → first_of f g ≡ g
second_first f g e = ap (λ t. cond t g f) e

pub first_first : (f g : SourceFault) → precedes (place_of g) (place_of f) ≡ false → first_of f g ≡ f
first_first f g e = ap (λ t. cond t g f) e

-- f, g, h in turn, by the tests of g before f and of h before g
three_firsts : (a b : Bool) (f g h : SourceFault) → precedes (place_of g) (place_of f) ≡ a → precedes (place_of h) (place_of g) ≡ b → first_of (first_of f g) h ≡ first_of f (first_of g h)
three_firsts true true f g h x y =
    ap (λ k. first_of k h) (second_first f g x) ∙ second_first g h y
    ∙ sym (ap (first_of f) (second_first g h y) ∙ second_first f h (before_all (place_of f) (place_of g) (place_of h) x y))
three_firsts true false f g h x y =
    ap (λ k. first_of k h) (second_first f g x) ∙ first_first g h y ∙ sym (ap (first_of f) (first_first g h y) ∙ second_first f g x)
three_firsts false true f g h x y = ap (λ k. first_of k h) (first_first f g x) ∙ sym (ap (first_of f) (second_first g h y))
three_firsts false false f g h x y =
    ap (λ k. first_of k h) (first_first f g x) ∙ first_first f h (not_after (place_of f) (place_of g) (place_of h) x y)
    ∙ sym (ap (first_of f) (first_first g h y) ∙ first_first f g x)

firsts : (f g h : SourceFault) → first_of (first_of f g) h ≡ first_of f (first_of g h)
firsts f g h = three_firsts (precedes (place_of g) (place_of f)) (precedes (place_of h) (place_of g)) f g h refl refl

pub earlier_none : (a : Option SourceFault) → earlier a None ≡ a
earlier_none None = refl
earlier_none (Some f) = refl

pub earlier-assoc : (a b c : Option SourceFault) → earlier (earlier a b) c ≡ earlier a (earlier b c)
earlier-assoc None b c = refl
earlier-assoc (Some f) None c = refl
earlier-assoc (Some f) (Some g) None = refl
earlier-assoc (Some f) (Some g) (Some h) = ap Some (firsts f g h)

least-append : (fs gs : List SourceFault) → least (fs ++ gs) ≡ earlier (least fs) (least gs)
least-append [] gs = refl
least-append (f ∷ fs) gs = ap (earlier (Some f)) (least-append fs gs) ∙ sym (earlier-assoc (Some f) (least fs) (least gs))

pub least-cons : (o : Option SourceFault) (fs : List SourceFault) → least (cons_option o fs) ≡ earlier o (least fs)
least-cons None fs = refl
least-cons (Some f) fs = refl

pub least_over : (h : Mention → Option SourceFault) (xs ys : List Mention) → least (filter_map h (xs ++ ys)) ≡ earlier (least (filter_map h xs)) (least (filter_map h ys))
least_over h xs ys = ap least (filter_map-append h xs ys) ∙ least-append (filter_map h xs) (filter_map h ys)

-- one more declaration in front
pub twice_on : (op : Operator) (d : Mention) (ds : List Mention) (r a b : Option SourceFault) → r ≡ earlier a b → a ≡ twice_in (declarations op) d → b ≡ first_twice op ds → r ≡ first_twice op (d ∷ ds)
twice_on op d ds r a b e f g = e ∙ ap (λ x. earlier x b) f ∙ ap (earlier (twice_in (declarations op) d)) g ∙ sym (least-cons (twice_in (declarations op) d) (filter_map (twice_in (declarations op)) ds))

pub twice_in_three : (op : Operator) (xs ys zs : List Mention) (a b c v r : Option SourceFault) → a ≡ first_twice op xs → b ≡ first_twice op ys → c ≡ first_twice op zs → v ≡ earlier b c → r ≡ earlier a v → r ≡ first_twice op (xs ++ (ys ++ zs))
twice_in_three op xs ys zs a b c v r e f g h k =
    k ∙ ap (earlier a) (h ∙ ap (λ x. earlier x c) f ∙ ap (earlier (first_twice op ys)) g ∙ sym (least_over (twice_in (declarations op)) ys zs))
    ∙ ap (λ x. earlier x (first_twice op (ys ++ zs))) e ∙ sym (least_over (twice_in (declarations op)) xs (ys ++ zs))

-- the uses of trees, at the variants as the code writes them
uses-Element : (u : Used) (e : Expr) → value_uses (Element u e) ≡ used_as role.Array u ∷ value_uses e
unfolding Rattle.pld_ast.specs.declared.tree.Expr.TheBlock.hidden-the_row-Expr-0 denote.Hole.Carrier.hidden
uses-Element u e = refl

uses-Unary : (o : UnOp) (e : Expr) → value_uses (Unary o e) ≡ value_uses e
unfolding Rattle.pld_ast.specs.declared.tree.Expr.TheBlock.hidden-the_row-Expr-0 denote.Hole.Carrier.hidden
uses-Unary o e = refl

uses-Binary : (o : BinOp) (a b : Expr) → value_uses (Binary o a b) ≡ value_uses a ++ value_uses b
unfolding Rattle.pld_ast.specs.declared.tree.Expr.TheBlock.hidden-the_row-Expr-0 denote.Hole.Carrier.hidden
uses-Binary o a b = refl

uses-Cast : (t : Ty) (e : Expr) → value_uses (Cast t e) ≡ value_uses e
unfolding Rattle.pld_ast.specs.declared.tree.Expr.TheBlock.hidden-the_row-Expr-0 denote.Hole.Carrier.hidden
uses-Cast t e = refl

row_is_block : (body : List Stmt) → row_uses (hidden-the_row-Stmt-0 body) ≡ block_uses body
unfolding Rattle.pld_ast.specs.declared.tree.Stmt.TheBlock.hidden-the_row-Stmt-0 denote.Hole.Carrier.hidden
row_is_block [] = refl
row_is_block (s ∷ rest) = ap (λ x. uses s ++ x) (row_is_block rest)

uses-While : (e : Expr) (body : List Stmt) → uses (While e body) ≡ value_uses e ++ block_uses body
uses-While e body = ap (λ x. value_uses e ++ x) (row_is_block body)

uses-If : (e : Expr) (a b : List Stmt) → uses (If e a b) ≡ (value_uses e ++ block_uses a) ++ block_uses b
uses-If e a b = ap (λ x. (value_uses e ++ x) ++ row_uses (hidden-the_row-Stmt-0 b)) (row_is_block a) ∙ ap (λ x. (value_uses e ++ block_uses a) ++ x) (row_is_block b)

append_none : (xs : List Mention) → xs ++ [] ≡ xs
append_none [] = refl
append_none (x ∷ xs) = ap (λ ys. x ∷ ys) (append_none xs)

pub itself : (p : Place) → precedes p p ≡ false
itself p = grind (arith, nat_tests)

pub other_way : (p q : Place) → precedes p q ≡ true → precedes q p ≡ false
other_way p q e = grind (arith, nat_tests)

-- what stands first once stands first again
first_again : (f g : SourceFault) (t : Bool) → precedes (place_of g) (place_of f) ≡ t → first_of (first_of f g) f ≡ first_of f g
first_again f g true e = ap (λ k. first_of k f) (second_first f g e) ∙ first_first g f (other_way (place_of g) (place_of f) e) ∙ sym (second_first f g e)
first_again f g false e = ap (λ k. first_of k f) (first_first f g e) ∙ first_first f f (itself (place_of f)) ∙ sym (first_first f g e)

earlier_again : (t a : Option SourceFault) → earlier (earlier t a) t ≡ earlier t a
earlier_again None a = earlier_none a
earlier_again (Some f) None = ap Some (first_first f f (itself (place_of f)))
earlier_again (Some f) (Some g) = ap Some (first_again f g (precedes (place_of g) (place_of f)) refl)

earlier_both : (t a b : Option SourceFault) → earlier t (earlier a b) ≡ earlier (earlier t a) (earlier t b)
earlier_both t a b = sym (sym (earlier-assoc (earlier t a) t b) ∙ ap (λ x. earlier x b) (earlier_again t a) ∙ earlier-assoc t a b)

both_known : (A B : Type 0) (a b : Option SourceFault) → IfNone a A → IfNone b B → IfNone (earlier a b) (A × B)
both_known A B None None f g = (f, g)
both_known A B None (Some y) f g = tt
both_known A B (Some x) None f g = tt
both_known A B (Some x) (Some y) f g = tt

known_as_well : (A B : Type 0) (o : Option SourceFault) → (A → B) → IfNone o A → IfNone o B
known_as_well A B None f h = f h
known_as_well A B (Some x) f h = tt

always : {A : Type 0} (o : Option SourceFault) → A → IfNone o A
always None a = a
always (Some x) a = tt

module _ (op : Operator) where
  told_both : (a b : Option SourceFault) → told op (earlier a b) ≡ earlier (told op a) (told op b)
  told_both a b = earlier_both (first_twice op (declarations op)) a b

  pub both_walked : {A B : Type 0} (a b r : Option SourceFault) (xs ys : List Mention) → r ≡ earlier a b → Walked op a xs A → Walked op b ys B → Walked op r (xs ++ ys) (A × B)
  both_walked {A} {B} a b r xs ys e f g =
      let apart : told op r ≡ earlier (told op a) (told op b) = ap (told op) e ∙ told_both a b in
      record {
        first = apart ∙ ap (λ x. earlier x (told op b)) f.first ∙ ap (earlier (told op (first_misused op xs))) g.first
            ∙ sym (ap (told op) (least_over (misused_in (declarations op)) xs ys) ∙ told_both (first_misused op xs) (first_misused op ys));
        known = subst (λ x. IfNone x (A × B)) (sym apart) (both_known A B (told op a) (told op b) f.known g.known);
      }

  -- the same of other names for the uses and the fact
  as_well : {A B : Type 0} (r : Option SourceFault) (xs ys : List Mention) → ys ≡ xs → (A → B) → Walked op r xs A → Walked op r ys B
  as_well {A} {B} r xs ys e f w = record { first = w.first ∙ ap (λ x. told op (first_misused op x)) (sym e); known = known_as_well A B (told op r) f w.known }

  abbrev pub WalkedValue : Option SourceFault → Expr → Type 0
  WalkedValue r e = Walked op r (value_uses e) (IsKnownValue (program_of op) (value_in (declared_in op) e))

  abbrev pub WalkedBlock : Option SourceFault → List Stmt → Type 0
  WalkedBlock r body = Walked op r (block_uses body) (IsKnown (program_of op) (block_in (declared_in op) body))

  abbrev pub WalkedStatement : Option SourceFault → Stmt → Type 0
  WalkedStatement r s = Walked op r (uses s) (IsKnown (program_of op) (action_in (declared_in op) s))

  known_value : (v w : Value) → w ≡ v → IsKnownValue (program_of op) v → IsKnownValue (program_of op) w
  known_value v w e h = subst (IsKnownValue (program_of op)) (sym e) h

  known_action : (a b : Action) → b ≡ a → IsKnown (program_of op) a → IsKnown (program_of op) b
  known_action a b e h = subst (IsKnown (program_of op)) (sym e) h

  of_unary : (o : UnOp) (v : Value) → IsKnownValue (program_of op) v → IsKnownValue (program_of op) (op1_of o v)
  of_unary un.Neg v h = h
  of_unary un.Plus v h = h
  of_unary un.BitNot v h = h
  of_unary un.Not v h = h

  pub at_literal : (r : Option SourceFault) (e : Expr) (v : ℕ) (t : Ty) → e ≡ Lit v t → r ≡ None → IsWord v → WalkedValue r e
  at_literal r e v t is n w = subst (WalkedValue r) (sym is) (record { first = ap (told op) n; known = always (told op r) w })

  pub at_variable : (r : Option SourceFault) (e : Expr) (u : Used) → e ≡ Var u → Walked op r (used_as role.Scalar u ∷ []) (IsScalar op u.name) → WalkedValue r e
  at_variable r e u is w = subst (WalkedValue r) (sym is) w

  pub at_unary : (r : Option SourceFault) (e a got : Expr) (o : UnOp) → e ≡ Unary o a → got ≡ a → WalkedValue r got → WalkedValue r e
  at_unary r e a got o is g w =
      subst (WalkedValue r) (sym is) (as_well r (value_uses a) (value_uses (Unary o a)) (uses-Unary o a)
      (λ h. known_value _ _ (value_in-Unary (declared_in op) o a) (of_unary o (value_in (declared_in op) a) h)) (subst (WalkedValue r) g w))

  pub at_cast : (r : Option SourceFault) (e a got : Expr) (t : Ty) → e ≡ Cast t a → got ≡ a → WalkedValue r got → WalkedValue r e
  at_cast r e a got t is g w =
      subst (WalkedValue r) (sym is) (as_well r (value_uses a) (value_uses (Cast t a)) (uses-Cast t a)
      (λ h. known_value _ _ (value_in-Cast (declared_in op) t a) h) (subst (WalkedValue r) g w))

  pub at_element : (r x y : Option SourceFault) (e i got : Expr) (u : Used) → e ≡ Element u i → got ≡ i → r ≡ earlier x y → Walked op x (used_as role.Array u ∷ []) (IsArray op u.name) → WalkedValue y got → WalkedValue r e
  at_element r x y e i got u is g q v w =
      subst (WalkedValue r) (sym is) (as_well r (used_as role.Array u ∷ value_uses i) (value_uses (Element u i)) (uses-Element u i)
      (λ h. known_value _ _ (value_in-Element (declared_in op) u i) h) (both_walked x y r (used_as role.Array u ∷ []) (value_uses i) q v (subst (WalkedValue y) g w)))

  pub at_binary : (r x y : Option SourceFault) (e a b got got' : Expr) (o : BinOp) → e ≡ Binary o a b → got ≡ a → got' ≡ b → r ≡ earlier x y → WalkedValue x got → WalkedValue y got' → WalkedValue r e
  at_binary r x y e a b got got' o is g g' q v w =
      subst (WalkedValue r) (sym is) (as_well r (value_uses a ++ value_uses b) (value_uses (Binary o a b)) (uses-Binary o a b)
      (λ h. known_value _ _ (value_in-Binary (declared_in op) o a b) h) (both_walked x y r (value_uses a) (value_uses b) q (subst (WalkedValue x) g v) (subst (WalkedValue y) g' w)))

  pub at_indexed : (r x y : Option SourceFault) (t : Target) (u : Used) (i : Expr) → t ≡ target.Element u i → r ≡ earlier x y → Walked op x (used_as role.Array u ∷ []) (IsArray op u.name) → WalkedValue y i → Walked op r (target_uses t) (IsKnownTarget op t)
  at_indexed r x y t u i is q v w = subst (λ s. Walked op r (target_uses s) (IsKnownTarget op s)) (sym is) (both_walked x y r (used_as role.Array u ∷ []) (value_uses i) q v w)

  known_assignment : (t : Target) (e : Expr) → IsKnownTarget op t × IsKnownValue (program_of op) (value_in (declared_in op) e) → IsKnown (program_of op) (assigned (declared_in op) t e)
  known_assignment (target.Scalar u) e h = h
  known_assignment (target.Element u i) e h = (h.0.0, h.0.1, h.1)

  known_read : (t : Target) (name : List ℕ) → IsKnownTarget op t × IsPort op In name → IsKnown (program_of op) (read_to (declared_in op) t (place_in (declared_in op).ins name))
  known_read (target.Scalar u) name h = h
  known_read (target.Element u i) name h = (h.0.0, h.0.1, h.1)

  pub at_assign : (r x y : Option SourceFault) (s : Stmt) (t : Target) (e : Expr) → s ≡ Assign t e → r ≡ earlier x y → Walked op x (target_uses t) (IsKnownTarget op t) → WalkedValue y e → WalkedStatement r s
  at_assign r x y s t e is q v w =
      subst (WalkedStatement r) (sym is) (as_well r (target_uses t ++ value_uses e) (target_uses t ++ value_uses e) refl (known_assignment t e) (both_walked x y r (target_uses t) (value_uses e) q v w))

  pub at_read : (r x y : Option SourceFault) (s : Stmt) (t : Target) (u : Used) → s ≡ Read t u → r ≡ earlier x y → Walked op x (target_uses t) (IsKnownTarget op t) → Walked op y (used_as role.Input u ∷ []) (IsPort op In u.name) → WalkedStatement r s
  at_read r x y s t u is q v w =
      subst (WalkedStatement r) (sym is) (as_well r (target_uses t ++ used_as role.Input u ∷ []) (target_uses t ++ used_as role.Input u ∷ []) refl (known_read t u.name) (both_walked x y r (target_uses t) (used_as role.Input u ∷ []) q v w))

  pub at_write : (r x y : Option SourceFault) (s : Stmt) (u : Used) (e : Expr) → s ≡ Write u e → r ≡ earlier x y → Walked op x (used_as role.Output u ∷ []) (IsPort op Out u.name) → WalkedValue y e → WalkedStatement r s
  at_write r x y s u e is q v w = subst (WalkedStatement r) (sym is) (both_walked x y r (used_as role.Output u ∷ []) (value_uses e) q v w)

  pub at_while : (r x y : Option SourceFault) (s : Stmt) (e : Expr) (a got : List Stmt) → s ≡ While e a → got ≡ a → r ≡ earlier x y → WalkedValue x e → WalkedBlock y got → WalkedStatement r s
  at_while r x y s e a got is g q v w =
      subst (WalkedStatement r) (sym is) (as_well r (value_uses e ++ block_uses a) (uses (While e a)) (uses-While e a)
      (λ h. known_action _ _ (action_in-While (declared_in op) e a) h) (both_walked x y r (value_uses e) (block_uses a) q v (subst (WalkedBlock y) g w)))

  pub at_if : (r f x y z : Option SourceFault) (s : Stmt) (e : Expr) (a b got got' : List Stmt) → s ≡ If e a b → got ≡ a → got' ≡ b → f ≡ earlier x y → r ≡ earlier f z → WalkedValue x e → WalkedBlock y got → WalkedBlock z got' → WalkedStatement r s
  at_if r f x y z s e a b got got' is g g' p q u v w =
      subst (WalkedStatement r) (sym is) (as_well r ((value_uses e ++ block_uses a) ++ block_uses b) (uses (If e a b)) (uses-If e a b)
      (λ h. known_action _ _ (action_in-If (declared_in op) e a b) (h.0.0, h.0.1, h.1))
      (both_walked f z r (value_uses e ++ block_uses a) (block_uses b) q (both_walked x y f (value_uses e) (block_uses a) p u (subst (WalkedBlock y) g v)) (subst (WalkedBlock z) g' w)))

  uses_last : (body : List Stmt) (s : Stmt) → block_uses (body ++ s ∷ []) ≡ block_uses body ++ uses s
  uses_last [] s = append_none (uses s)
  uses_last (b ∷ body) s = ap (λ x. uses b ++ x) (uses_last body s) ∙ sym (append_assoc (uses b) (block_uses body) (uses s))

  known_last : (body : List Stmt) (s : Stmt) → IsKnown (program_of op) (block_in (declared_in op) body) × IsKnown (program_of op) (action_in (declared_in op) s) → IsKnown (program_of op) (block_in (declared_in op) (body ++ s ∷ []))
  known_last [] s h = (h.1, _)
  known_last (b ∷ body) s h = (h.0.0, known_last body s (h.0.1, h.1))

  pub at_next : (r x y : Option SourceFault) (body : List Stmt) (i : ℕ) (s : Stmt) → i < length body → s ≡ get_or body i s → r ≡ earlier x y → WalkedBlock x (take i body) → WalkedStatement y s → WalkedBlock r (take (i + 1) body)
  at_next r x y body i s lt is q v w =
      subst (WalkedBlock r) (sym (take_more body i s lt ∙ ap (λ z. take i body ++ z ∷ []) (sym is)))
      (as_well r (block_uses (take i body) ++ uses s) (block_uses (take i body ++ s ∷ [])) (uses_last (take i body) s) (known_last (take i body) s) (both_walked x y r (block_uses (take i body)) (uses s) q v w))

  pub none_walked : WalkedBlock None []
  none_walked = record { first = refl; known = always (told op None) _ }

  whole_told : (r a b : Option SourceFault) → r ≡ earlier a b → a ≡ first_twice op (declarations op) → r ≡ told op b
  whole_told r a b q f = q ∙ ap (λ x. earlier x b) f

  pub whole_first : (r a b : Option SourceFault) (body : List Stmt) → body ≡ op.body → r ≡ earlier a b → a ≡ first_twice op (declarations op) → WalkedBlock b body → r ≡ least (wrong_names op)
  whole_first r a b body e q f w =
      whole_told r a b q f ∙ w.first ∙ ap (λ x. told op (first_misused op (block_uses x))) e
      ∙ sym (least-append (filter_map (twice_in (declarations op)) (declarations op)) (filter_map (misused_in (declarations op)) (block_uses op.body)))

  pub whole_known : (r a b : Option SourceFault) (body : List Stmt) → body ≡ op.body → r ≡ earlier a b → a ≡ first_twice op (declarations op) → WalkedBlock b body → IfNone r (IsKnown (program_of op) (program_of op).body)
  whole_known r a b body e q f w =
      subst (λ x. IfNone x (IsKnown (program_of op) (program_of op).body)) (sym (whole_told r a b q f))
      (subst (λ x. IfNone (told op b) (IsKnown (program_of op) (block_in (declared_in op) x))) e w.known)
