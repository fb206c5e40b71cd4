-- The micros of values and of single statements, one after the other.
use Rattle.std.proofs.Common.{◌≡◌, ℕ, ◌+◌, ◌<◌, ◌≤◌, List, [], ◌∷◌, ◌++◌, refl, sym, ap, ◌∙◌, arith, append_assoc}
use Rattle.std.proofs.lemmas.List.{append-nil}
use Rattle.std.specs.Prelude.{Result, Ok, Err, OnOk, IfOk}
use Rattle.fsm_core.specs.declared.micro.Micro.{Micro}
use Rattle.fsm_core.specs.declared.micro.MicroOp.TheVariants as op
use Rattle.pld_ast.specs.declared.tree.UnOp.{UnOp}
use Rattle.pld_ast.specs.declared.tree.UnOp.TheVariants as un
use Rattle.pld_ast.specs.declared.tree.BinOp.{BinOp}
use Rattle.pld_ast.specs.declared.tree.Ty.{Ty}
use Rattle.pld_ast.specs.declared.tree.Used.{Used}
use Rattle.pld_ast.specs.declared.tree.Expr.{Expr}
use Rattle.pld_ast.specs.declared.tree.Expr.TheVariants as expr
use Rattle.pld_ast.specs.Program.{Operation1, Keep, Operation2, Value, Element, Op1, Op2, Assign, Store, Read, ReadInto, Write}
use Rattle.pld_ast.specs.Resolve.{Names, op1_of, op2_of, type_of, array_no, value_in}
use Rattle.pld_ast.proofs.Views.{value_in-Element, value_in-Unary, value_in-Binary, value_in-Cast}
use Rattle.fsm_ir.specs.Blocks.{by_two, load_micro, store_micro, read_micro, write_micro, op1_micros, op1_reg, op1_temps, op2_micro, temps_in, reg_of, value_micros, Made}
use Rattle.fsm_ir.specs.Building.{grown, after, operation1, HasTemps, IsPut, HasSpace}
use Rattle.fsm_ir.proofs.Sizes.{temps_small}

-- a fact of an Ok, by another one
pub if_ok : {A E : Type 0} {P Q : A → Type 0} → (r : Result A E) → ((x : A) → P x → Q x) → IfOk r P → IfOk r Q
if_ok (Ok x) f h = f x h
if_ok (Err e) f h = tt

pub on_ok : {A E P Q : Type 0} → (r : Result A E) → (P → Q) → OnOk r P → OnOk r Q
on_ok (Ok x) f h = f h
on_ok (Err e) f h = tt

grown_twice : (m : Made) (a b : List Micro) (s t : ℕ) → grown (grown m a s) b t ≡ grown m (a ++ b) t
grown_twice m a b s t = ap (λ l. let n : Made = record { ended = m.ended; current = l; temps = t } in n) (append_assoc m.current a b)

grown_thrice : (m : Made) (a b c : List Micro) (s t u : ℕ) → grown (grown (grown m a s) b t) c u ≡ grown m (a ++ (b ++ c)) u
grown_thrice m a b c s t u = grown_twice (grown m a s) b c t u ∙ grown_twice m a (b ++ c) s u

-- ---- expressions

pub element_is : (d : Names) (e i i' : Expr) (u : Used) → e ≡ expr.Element u i → i' ≡ i → Element (array_no d u.name) (value_in d i') ≡ value_in d e
element_is d e i i' u is same = ap (λ x. Element (array_no d u.name) (value_in d x)) same ∙ sym (ap (value_in d) is ∙ value_in-Element d u i)

op1_is : (o : UnOp) (v : Value) → Op1 (operation1 o) v ≡ op1_of o v
op1_is un.Neg v = refl
op1_is un.Plus v = refl
op1_is un.BitNot v = refl
op1_is un.Not v = refl

pub unary_is : (d : Names) (e a a' : Expr) (o : UnOp) → e ≡ expr.Unary o a → a' ≡ a → Op1 (operation1 o) (value_in d a') ≡ value_in d e
unary_is d e a a' o is same = ap (λ x. Op1 (operation1 o) (value_in d x)) same ∙ op1_is o (value_in d a) ∙ sym (ap (value_in d) is ∙ value_in-Unary d o a)

pub cast_is : (d : Names) (e a a' : Expr) (t : Ty) → e ≡ expr.Cast t a → a' ≡ a → Op1 Keep (value_in d a') ≡ value_in d e
cast_is d e a a' t is same = ap (λ x. Op1 Keep (value_in d x)) same ∙ sym (ap (value_in d) is ∙ value_in-Cast d t a)

pub binary_is : (d : Names) (e a a' b b' : Expr) (o : BinOp) (s t : Ty) → e ≡ expr.Binary o a b → a' ≡ a → b' ≡ b → s ≡ type_of d a' → t ≡ type_of d b' → Op2 (op2_of o s t) (value_in d a') (value_in d b') ≡ value_in d e
binary_is d e a a' b b' o s t is ea eb es et =
    ap (λ x. Op2 (op2_of o x t) (value_in d a') (value_in d b')) es
    ∙ ap (λ x. Op2 (op2_of o (type_of d a') x) (value_in d a') (value_in d b')) et
    ∙ ap (λ x. Op2 (op2_of o (type_of d x) (type_of d b')) (value_in d x) (value_in d b')) ea
    ∙ ap (λ x. Op2 (op2_of o (type_of d a) (type_of d x)) (value_in d a) (value_in d x)) eb
    ∙ sym (ap (value_in d) is ∙ value_in-Binary d o a b)

-- ---- values

pub element_put : (u unit : ℕ) (v : Value) (m0 m1 m2 : Made) (r1 r : ℕ) → unit ≡ u → (HasTemps m0 v → IsPut v m0 m1 r1) → r ≡ m1.temps
    → (m1.temps < 65535 → m2 ≡ grown m1 (load_micro m1.temps unit r1 ∷ []) (m1.temps + 1)) → HasTemps m0 (Element u v) → IsPut (Element u v) m0 m2 r
element_put u unit v m0 m1 m2 r1 r same h1 hr h2 space =
    let a = h1 (omega (arith, space)) in
    let t : m1.temps ≡ m0.temps + temps_in v = ap (λ m. m.temps) a.made in
    record {
      made =
          h2 (omega (arith, t, space)) ∙ ap (λ m. grown m (load_micro m.temps unit r1 ∷ []) (m.temps + 1)) a.made
          ∙ ap (λ x. grown (grown m0 (value_micros v m0.temps) (m0.temps + temps_in v)) (load_micro (m0.temps + temps_in v) unit x ∷ []) (m0.temps + temps_in v + 1)) a.register
          ∙ ap (λ x. grown (grown m0 (value_micros v m0.temps) (m0.temps + temps_in v)) (load_micro (m0.temps + temps_in v) x (reg_of v m0.temps) ∷ []) (m0.temps + temps_in v + 1)) same
          ∙ grown_twice m0 (value_micros v m0.temps) (load_micro (m0.temps + temps_in v) u (reg_of v m0.temps) ∷ []) (m0.temps + temps_in v) (m0.temps + temps_in v + 1)
          ∙ ap (grown m0 (value_micros (Element u v) m0.temps)) (let e : m0.temps + temps_in v + 1 ≡ m0.temps + (temps_in v + 1) = omega arith in e);
      register = hr ∙ t;
    }

pub unary_put : (o : Operation1) (v : Value) (m0 m1 m2 : Made) (r1 r : ℕ) → (HasTemps m0 v → IsPut v m0 m1 r1) → r ≡ op1_reg o m1.temps r1
    → (m1.temps + op1_temps o ≤ 65535 → m2 ≡ grown m1 (op1_micros o m1.temps r1) (m1.temps + op1_temps o)) → HasTemps m0 (Op1 o v) → IsPut (Op1 o v) m0 m2 r
unary_put o v m0 m1 m2 r1 r h1 hr h2 space =
    let a = h1 (omega (arith, space)) in
    let t : m1.temps ≡ m0.temps + temps_in v = ap (λ m. m.temps) a.made in
    record {
      made =
          h2 (omega (arith, t, space)) ∙ ap (λ m. grown m (op1_micros o m.temps r1) (m.temps + op1_temps o)) a.made
          ∙ ap (λ x. grown (grown m0 (value_micros v m0.temps) (m0.temps + temps_in v)) (op1_micros o (m0.temps + temps_in v) x) (m0.temps + temps_in v + op1_temps o)) a.register
          ∙ grown_twice m0 (value_micros v m0.temps) (op1_micros o (m0.temps + temps_in v) (reg_of v m0.temps)) (m0.temps + temps_in v) (m0.temps + temps_in v + op1_temps o)
          ∙ ap (grown m0 (value_micros (Op1 o v) m0.temps)) (let e : m0.temps + temps_in v + op1_temps o ≡ m0.temps + (temps_in v + op1_temps o) = omega arith in e);
      register = hr ∙ ap (λ n. op1_reg o n r1) t ∙ ap (op1_reg o (m0.temps + temps_in v)) a.register;
    }

pub cast_put : (v : Value) (m0 m1 : Made) (r : ℕ) → (HasTemps m0 v → IsPut v m0 m1 r) → HasTemps m0 (Op1 Keep v) → IsPut (Op1 Keep v) m0 m1 r
cast_put v m0 m1 r h1 space =
    let a = h1 (omega (arith, space)) in
    record {
      made = a.made ∙ ap (λ l. grown m0 l (m0.temps + temps_in v)) (sym (append-nil (value_micros v m0.temps))) ∙ ap (grown m0 (value_micros (Op1 Keep v) m0.temps)) (let e : m0.temps + temps_in v ≡ m0.temps + (temps_in v + 0) = omega arith in e);
      register = a.register;
    }

-- two values, and then a micro of their registers
pub record ArePut (v w : Value) (m : ℕ → ℕ → ℕ → Micro) (more : ℕ) (m0 m3 : Made) : Type 0 where
  pub made : m3 ≡ grown m0 (value_micros v m0.temps ++ (value_micros w (m0.temps + temps_in v) ++ m (m0.temps + temps_in v + temps_in w) (reg_of v m0.temps) (reg_of w (m0.temps + temps_in v)) ∷ [])) (m0.temps + temps_in v + temps_in w + more)

both_put : (v w : Value) (m : ℕ → ℕ → ℕ → Micro) (more : ℕ) (m0 m1 m2 m3 : Made) (r1 r2 : ℕ) → IsPut v m0 m1 r1 → IsPut w m1 m2 r2
    → m3 ≡ grown m2 (m m2.temps r1 r2 ∷ []) (m2.temps + more) → ArePut v w m more m0 m3
both_put v w m more m0 m1 m2 m3 r1 r2 a b h = record {
  made =
      h ∙ ap (λ x. grown x (m x.temps r1 r2 ∷ []) (x.temps + more)) b.made
      ∙ ap (λ x. grown (grown x (value_micros w x.temps) (x.temps + temps_in w)) (m (x.temps + temps_in w) r1 r2 ∷ []) (x.temps + temps_in w + more)) a.made
      ∙ ap (λ x. grown (grown (grown m0 (value_micros v m0.temps) (m0.temps + temps_in v)) (value_micros w (m0.temps + temps_in v)) ((m0.temps + temps_in v) + temps_in w)) (m ((m0.temps + temps_in v) + temps_in w) x r2 ∷ []) ((m0.temps + temps_in v) + temps_in w + more)) a.register
      ∙ ap (λ x. grown (grown (grown m0 (value_micros v m0.temps) (m0.temps + temps_in v)) (value_micros w (m0.temps + temps_in v)) ((m0.temps + temps_in v) + temps_in w)) (m ((m0.temps + temps_in v) + temps_in w) (reg_of v m0.temps) x ∷ []) ((m0.temps + temps_in v) + temps_in w + more)) (b.register ∙ ap (λ x. reg_of w x.temps) a.made)
      ∙ grown_thrice m0 (value_micros v m0.temps) (value_micros w (m0.temps + temps_in v)) (m ((m0.temps + temps_in v) + temps_in w) (reg_of v m0.temps) (reg_of w (m0.temps + temps_in v)) ∷ []) (m0.temps + temps_in v) ((m0.temps + temps_in v) + temps_in w) ((m0.temps + temps_in v) + temps_in w + more);
}

pub binary_put : (o : Operation2) (v w : Value) (m0 m1 m2 m3 : Made) (r1 r2 r : ℕ) → (HasTemps m0 v → IsPut v m0 m1 r1) → (HasTemps m1 w → IsPut w m1 m2 r2) → r ≡ m2.temps
    → (m2.temps < 65535 → m3 ≡ grown m2 (op2_micro o m2.temps r1 r2 ∷ []) (m2.temps + 1)) → HasTemps m0 (Op2 o v w) → IsPut (Op2 o v w) m0 m3 r
binary_put o v w m0 m1 m2 m3 r1 r2 r h1 h2 hr h3 space =
    let a = h1 (omega (arith, space)) in
    let t1 : m1.temps ≡ m0.temps + temps_in v = ap (λ m. m.temps) a.made in
    let b = h2 (omega (arith, space, t1)) in
    let t2 : m2.temps ≡ m1.temps + temps_in w = ap (λ m. m.temps) b.made in
    let t : m2.temps ≡ m0.temps + temps_in v + temps_in w = omega (arith, t1, t2) in
    let all = both_put v w (op2_micro o) 1 m0 m1 m2 m3 r1 r2 a b (h3 (omega (arith, space, t))) in
    record {
      made = all.made ∙ ap (grown m0 (value_micros (Op2 o v w) m0.temps)) (let e : m0.temps + temps_in v + temps_in w + 1 ≡ m0.temps + (temps_in v + temps_in w + 1) = omega arith in e);
      register = hr ∙ t;
    }

-- ---- statements that stay in the current block

straight_on : (m : Made) (micros : List Micro) (t : ℕ) → grown m micros t ≡ record { ended = m.ended ++ []; current = m.current ++ micros; temps = t }
straight_on m micros t = ap (λ l. let n : Made = record { ended = l; current = m.current ++ micros; temps = t } in n) (sym (append-nil m.ended))

-- a value, and then a micro of its register
value_then : (v : Value) (m : ℕ → Micro) (m0 m1 m2 : Made) (r : ℕ) → IsPut v m0 m1 r → m2 ≡ grown m1 (m r ∷ []) m1.temps
    → m2 ≡ record { ended = m0.ended ++ []; current = m0.current ++ (value_micros v m0.temps ++ m (reg_of v m0.temps) ∷ []); temps = m0.temps + temps_in v }
value_then v m m0 m1 m2 r a h =
    h ∙ ap (λ x. grown x (m r ∷ []) x.temps) a.made
    ∙ ap (λ x. grown (grown m0 (value_micros v m0.temps) (m0.temps + temps_in v)) (m x ∷ []) (m0.temps + temps_in v)) a.register
    ∙ grown_twice m0 (value_micros v m0.temps) (m (reg_of v m0.temps) ∷ []) (m0.temps + temps_in v) (m0.temps + temps_in v)
    ∙ straight_on m0 (value_micros v m0.temps ++ m (reg_of v m0.temps) ∷ []) (m0.temps + temps_in v)

pub assign_put : (s t : ℕ) (v : Value) (m0 m1 m2 : Made) (r : ℕ) → t ≡ s → (HasTemps m0 v → IsPut v m0 m1 r) → m2 ≡ grown m1 (by_two op.Move t r ∷ []) m1.temps → HasSpace m0 (Assign s v) → m2 ≡ after m0 (Assign s v)
assign_put s t v m0 m1 m2 r same h1 h2 space =
    value_then v (by_two op.Move s) m0 m1 m2 r (h1 (omega (arith, space.registers, temps_small v))) (h2 ∙ ap (λ x. grown m1 (by_two op.Move x r ∷ []) m1.temps) same)

pub write_put : (p port : ℕ) (v : Value) (m0 m1 m2 : Made) (r : ℕ) → port ≡ p → (HasTemps m0 v → IsPut v m0 m1 r) → m2 ≡ grown m1 (write_micro port r ∷ []) m1.temps → HasSpace m0 (Write p v) → m2 ≡ after m0 (Write p v)
write_put p port v m0 m1 m2 r same h1 h2 space =
    value_then v (write_micro p) m0 m1 m2 r (h1 (omega (arith, space.registers, temps_small v))) (h2 ∙ ap (λ x. grown m1 (write_micro x r ∷ []) m1.temps) same)

pub read_put : (s t p : ℕ) (m0 m1 : Made) → t ≡ s → m1 ≡ grown m0 (read_micro t p ∷ []) m0.temps → m1 ≡ after m0 (Read s p)
read_put s t p m0 m1 same h = h ∙ ap (λ x. grown m0 (read_micro x p ∷ []) m0.temps) same ∙ straight_on m0 (read_micro s p ∷ []) m0.temps

pub store_put : (u unit : ℕ) (i v : Value) (m0 m1 m2 m3 : Made) (r1 r2 : ℕ) → unit ≡ u → (HasTemps m0 i → IsPut i m0 m1 r1) → (HasTemps m1 v → IsPut v m1 m2 r2) → m3 ≡ grown m2 (store_micro unit r1 r2 ∷ []) m2.temps
    → HasSpace m0 (Store u i v) → m3 ≡ after m0 (Store u i v)
store_put u unit i v m0 m1 m2 m3 r1 r2 same h1 h2 h3 space =
    let a = h1 (omega (arith, space.registers, temps_small i, temps_small v)) in
    let t1 : m1.temps ≡ m0.temps + temps_in i = ap (λ m. m.temps) a.made in
    let b = h2 (omega (arith, space.registers, temps_small i, temps_small v, t1)) in
    let e : m2.temps ≡ m2.temps + 0 = omega arith in
    let all = both_put i v (λ t x y. store_micro u x y) 0 m0 m1 m2 m3 r1 r2 a b (h3 ∙ ap (λ x. grown m2 (store_micro x r1 r2 ∷ []) m2.temps) same ∙ ap (grown m2 (store_micro u r1 r2 ∷ [])) e) in
    let micros = value_micros i m0.temps ++ (value_micros v (m0.temps + temps_in i) ++ store_micro u (reg_of i m0.temps) (reg_of v (m0.temps + temps_in i)) ∷ []) in
    all.made ∙ ap (grown m0 micros) (let z : m0.temps + temps_in i + temps_in v + 0 ≡ m0.temps + temps_in i + temps_in v = omega arith in z)
    ∙ straight_on m0 micros (m0.temps + temps_in i + temps_in v)

pub read_into_put : (u unit p : ℕ) (i : Value) (m0 m1 m2 m3 : Made) (r1 r2 : ℕ) → unit ≡ u → (HasTemps m0 i → IsPut i m0 m1 r1) → r2 ≡ m1.temps
    → (m1.temps < 65535 → m2 ≡ grown m1 (read_micro m1.temps p ∷ []) (m1.temps + 1)) → m3 ≡ grown m2 (store_micro unit r1 r2 ∷ []) m2.temps
    → HasSpace m0 (ReadInto u i p) → m3 ≡ after m0 (ReadInto u i p)
read_into_put u unit p i m0 m1 m2 m3 r1 r2 same h1 hr h2 h3 space =
    let a = h1 (omega (arith, space.registers, temps_small i)) in
    let t1 : m1.temps ≡ m0.temps + temps_in i = ap (λ m. m.temps) a.made in
    let s = m0.temps + temps_in i in
    let second = h2 (omega (arith, space.registers, temps_small i, t1)) in
    h3 ∙ ap (λ x. grown m2 (store_micro x r1 r2 ∷ []) m2.temps) same
    ∙ ap (λ x. grown x (store_micro u r1 r2 ∷ []) x.temps) second
    ∙ ap (λ x. grown (grown m1 (read_micro m1.temps p ∷ []) (m1.temps + 1)) (store_micro u r1 x ∷ []) (m1.temps + 1)) hr
    ∙ ap (λ x. grown (grown x (read_micro x.temps p ∷ []) (x.temps + 1)) (store_micro u r1 x.temps ∷ []) (x.temps + 1)) a.made
    ∙ ap (λ x. grown (grown (grown m0 (value_micros i m0.temps) s) (read_micro s p ∷ []) (s + 1)) (store_micro u x s ∷ []) (s + 1)) a.register
    ∙ grown_thrice m0 (value_micros i m0.temps) (read_micro s p ∷ []) (store_micro u (reg_of i m0.temps) s ∷ []) s (s + 1) (s + 1)
    ∙ straight_on m0 (value_micros i m0.temps ++ (read_micro s p ∷ store_micro u (reg_of i m0.temps) s ∷ [])) (s + 1)
