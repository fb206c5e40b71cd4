-- Whether the names of a tree are known, by those of its parts.
use Rattle.std.proofs.Common.{◌≡◌, ℕ, zero, suc, ◌≤◌, ◌+◌, ◌-◌, ◌<◌, List, ◌∷◌, [], ◌++◌, length, Bool, true, false, refl, sym, ap, subst, ◌∙◌, arith}
use Rattle.std.specs.Prelude.{◌↔◌, ◌&&◌, IsTrue, nat_lt, map}
use Rattle.std.proofs.lemmas.List.{take_more, take_all}
use Rattle.std.proofs.Common.{get_or, take, drop}
use Rattle.std.proofs.lemmas.Bool.Decides.{nat_tests}
use Rattle.pld_base.specs.declared.event.Side.TheVariants.{In, Out}
use Rattle.pld_ast.specs.declared.tree.Ty.{Ty}
use Rattle.pld_ast.specs.declared.tree.UnOp.{UnOp}
use Rattle.pld_ast.specs.declared.tree.UnOp.TheVariants as un
use Rattle.pld_ast.specs.declared.tree.BinOp.{BinOp}
use Rattle.pld_ast.specs.declared.tree.Used.{Used}
use Rattle.pld_ast.specs.declared.tree.Port.{Port}
use Rattle.pld_ast.specs.declared.tree.Array.{Array}
use Rattle.pld_ast.specs.declared.tree.Expr.{Expr}
use Rattle.pld_ast.specs.declared.tree.Expr.TheVariants.{Element, Unary, Binary, Cast}
use Rattle.pld_ast.specs.declared.tree.Stmt.{Stmt}
use Rattle.pld_ast.specs.declared.tree.Stmt.TheVariants.{If, While}
use Rattle.pld_ast.specs.declared.tree.Operator.{Operator}
use Rattle.pld_ast.specs.Program.{Value, Action, Choose, Program}
use Rattle.pld_ast.specs.Resolve.{Names, ports_at, place_in, value_in, action_in, block_in, op1_of}
use Rattle.pld_ast.specs.Sound.{IsKnownValue, IsKnown}
use Rattle.pld_ast.proofs.Views.{value_in-Element, value_in-Unary, value_in-Binary, value_in-Cast, action_in-If, action_in-While}
use Rattle.pld_check.specs.Known.{IsPort, AreFilled}

-- this is told exactly
abbrev pub Tells : Bool → Type 0 → Type 0
Tells told A = IsTrue told ↔ A

both_of : {A B : Type 0} (a b : Bool) → Tells a A → Tells b B → Tells (a && b) (A × B)
both_of true true f g = (λ h. (f.0 h, g.0 h), λ h. refl)
both_of true false f g = (λ h. absurd (let no : ⊥ = cc in no), λ h. g.1 h.1)
both_of false b f g = (λ h. absurd (let no : ⊥ = cc in no), λ h. f.1 h.0)

pub both_tell : {A B : Type 0} (a b r : Bool) → r ≡ (a && b) → Tells a A → Tells b B → Tells r (A × B)
both_tell {A} {B} a b r e f g = subst (λ x. Tells x (A × B)) (sym e) (both_of a b f g)

below : (a b m n : ℕ) → a ≡ m → b ≡ n → Tells (nat_lt a b) (m < n)
below a b m n e f = (λ h. grind (arith, nat_tests, h, e, f), λ h. grind (arith, nat_tests, h, e, f))

-- a place among the ports of one side, against their count
pub input_told : (op : Operator) (ports : List Port) (name : List ℕ) (place count : ℕ) → ports ≡ op.ports → place ≡ place_in (ports_at In ports) name → count ≡ length (ports_at In ports) → Tells (nat_lt place count) (IsPort op In name)
input_told op ports name place count e f g =
    below place count _ _ (f ∙ ap (λ x. place_in (ports_at In x) name) e) (g ∙ ap (λ x. length (ports_at In x)) e)

pub output_told : (op : Operator) (ports : List Port) (name : List ℕ) (place count : ℕ) → ports ≡ op.ports → place ≡ place_in (ports_at Out ports) name → count ≡ length (ports_at Out ports) → Tells (nat_lt place count) (IsPort op Out name)
output_told op ports name place count e f g =
    below place count _ _ (f ∙ ap (λ x. place_in (ports_at Out x) name) e) (g ∙ ap (λ x. length (ports_at Out x)) e)

pub none_filled : AreFilled []
none_filled t lt = absurd (omega (arith, lt))

pub filled_on : (x : ℕ) (xs : List ℕ) → 1 ≤ x → AreFilled xs → AreFilled (x ∷ xs)
filled_on x xs h f zero lt = h
filled_on x xs h f (suc t) lt = f t (omega (arith, lt))

pub filled_first : (x : ℕ) (xs : List ℕ) → AreFilled (x ∷ xs) → 1 ≤ x
filled_first x xs f = f 0 (omega arith)

pub filled_rest : (x : ℕ) (xs : List ℕ) → AreFilled (x ∷ xs) → AreFilled xs
filled_rest x xs f t lt = f (suc t) (omega (arith, lt))

filled_cons : (told first more : Bool) (x : ℕ) (xs : List ℕ) → told ≡ (first && more) → Tells first (1 ≤ x) → Tells more (AreFilled xs) → Tells told (AreFilled (x ∷ xs))
filled_cons told first more x xs r f g =
    let whole = both_tell first more told r f g in
    (λ h. filled_on x xs (whole.0 h).0 (whole.0 h).1, λ h. whole.1 (filled_first x xs h, filled_rest x xs h))

abbrev pub lengths_of : List Array → List ℕ
lengths_of arrays = map (λ a. a.len) arrays

pub filled_told : (told first more : Bool) (arrays : List Array) (a : Array) → 1 ≤ length arrays → a ≡ get_or arrays 0 a → told ≡ (first && more) → Tells first (1 ≤ a.len) → Tells more (AreFilled (lengths_of (take (length arrays - 1) (drop 1 arrays)))) → Tells told (AreFilled (lengths_of arrays))
filled_told told first more [] a some is r f g = absurd (omega (arith, some))
filled_told told first more (b ∷ rest) a some is r f g = filled_cons told first more b.len (lengths_of rest) r (subst (λ x. Tells first (1 ≤ x.len)) is f) (subst (λ x. Tells more (AreFilled (lengths_of x))) (take_all (length (b ∷ rest) - 1) rest (omega arith)) g)

module _ (g : Program) (d : Names) where
  -- the names of an expression are told
  abbrev pub TellsOf : Bool → Expr → Type 0
  TellsOf told e = Tells told (IsKnownValue g (value_in d e))

  abbrev pub TellsOfBlock : Bool → List Stmt → Type 0
  TellsOfBlock told body = Tells told (IsKnown g (block_in d body))

  same : (told : Bool) (v w : Value) → w ≡ v → Tells told (IsKnownValue g v) → Tells told (IsKnownValue g w)
  same told v w e h = subst (λ x. Tells told (IsKnownValue g x)) (sym e) h

  at : (told : Bool) (e e' : Expr) → e ≡ e' → TellsOf told e' → TellsOf told e
  at told e e' is h = subst (TellsOf told) (sym is) h

  of_unary : (told : Bool) (o : UnOp) (v : Value) → Tells told (IsKnownValue g v) → Tells told (IsKnownValue g (op1_of o v))
  of_unary told un.Neg v h = h
  of_unary told un.Plus v h = h
  of_unary told un.BitNot v h = h
  of_unary told un.Not v h = h

  pub at_unary : (told : Bool) (e a got : Expr) (o : UnOp) → e ≡ Unary o a → got ≡ a → TellsOf told got → TellsOf told e
  at_unary told e a got o is g h = at told e (Unary o a) is (same told _ _ (value_in-Unary d o a) (of_unary told o (value_in d a) (subst (TellsOf told) g h)))

  pub at_cast : (told : Bool) (e a got : Expr) (t : Ty) → e ≡ Cast t a → got ≡ a → TellsOf told got → TellsOf told e
  at_cast told e a got t is g h = at told e (Cast t a) is (same told _ _ (value_in-Cast d t a) (subst (TellsOf told) g h))

  pub at_element : (told there known : Bool) (e i got : Expr) (u : Used) → e ≡ Element u i → got ≡ i → told ≡ (there && known) → Tells there (place_in (map (λ a. a.name) d.arrays) u.name < length g.lengths) → TellsOf known got → TellsOf told e
  at_element told there known e i got u is g r f h =
      at told e (Element u i) is (same told _ _ (value_in-Element d u i) (both_tell there known told r f (subst (TellsOf known) g h)))

  pub at_binary : (told left right : Bool) (e a b got got' : Expr) (o : BinOp) → e ≡ Binary o a b → got ≡ a → got' ≡ b → told ≡ (left && right) → TellsOf left got → TellsOf right got' → TellsOf told e
  at_binary told left right e a b got got' o is g g' r f h =
      at told e (Binary o a b) is (same told _ _ (value_in-Binary d o a b) (both_tell left right told r (subst (TellsOf left) g f) (subst (TellsOf right) g' h)))

  as_action : (told : Bool) (s : Stmt) (a b : Action) → a ≡ b → Tells told (IsKnown g b) → Tells told (IsKnown g a)
  as_action told s a b e h = subst (λ x. Tells told (IsKnown g x)) (sym e) h

  pub at_while : (told test known : Bool) (s : Stmt) (e : Expr) (a got : List Stmt) → s ≡ While e a → got ≡ a → told ≡ (test && known) → TellsOf test e → TellsOfBlock known got → Tells told (IsKnown g (action_in d s))
  at_while told test known s e a got is g r f h =
      as_action told s _ _ (ap (action_in d) is ∙ action_in-While d e a) (both_tell test known told r f (subst (TellsOfBlock known) g h))

  chosen : (told : Bool) (v : Value) (a b : Action) → Tells told ((IsKnownValue g v × IsKnown g a) × IsKnown g b) → Tells told (IsKnown g (Choose v a b))
  chosen told v a b w = (λ k. let r = w.0 k in (r.0.0, r.0.1, r.1), λ k. w.1 ((k.0, k.1), k.2))

  pub at_if : (told front test left right : Bool) (s : Stmt) (e : Expr) (a b got got' : List Stmt) → s ≡ If e a b → got ≡ a → got' ≡ b → front ≡ (test && left) → told ≡ (front && right) → TellsOf test e → TellsOfBlock left got → TellsOfBlock right got' → Tells told (IsKnown g (action_in d s))
  at_if told front test left right s e a b got got' is g g' r r' f h k =
      as_action told s _ _ (ap (action_in d) is ∙ action_in-If d e a b) (chosen told (value_in d e) (block_in d a) (block_in d b) (both_tell front right told r' (both_tell test left front r f (subst (TellsOfBlock left) g h)) (subst (TellsOfBlock right) g' k)))

  joined : (body : List Stmt) (s : Stmt) → IsKnown g (block_in d body) × IsKnown g (action_in d s) → IsKnown g (block_in d (body ++ s ∷ []))
  joined [] s h = (h.1, _)
  joined (b ∷ body) s h = (h.0.0, joined body s (h.0.1, h.1))

  parted : (body : List Stmt) (s : Stmt) → IsKnown g (block_in d (body ++ s ∷ [])) → IsKnown g (block_in d body) × IsKnown g (action_in d s)
  parted [] s h = (_, h.0)
  parted (b ∷ body) s h = let more = parted body s h.1 in ((h.0, more.0), more.1)

  ends_with : (told known last : Bool) (body : List Stmt) (s : Stmt) → told ≡ (known && last) → TellsOfBlock known body → Tells last (IsKnown g (action_in d s)) → TellsOfBlock told (body ++ s ∷ [])
  ends_with told known last body s r f h = let whole = both_tell known last told r f h in (λ k. joined body s (whole.0 k), λ k. whole.1 (parted body s k))

  pub at_next : (told known last : Bool) (body : List Stmt) (i : ℕ) (s : Stmt) → i < length body → s ≡ get_or body i s → told ≡ (known && last) → TellsOfBlock known (take i body) → Tells last (IsKnown g (action_in d s)) → TellsOfBlock told (take (i + 1) body)
  at_next told known last body i s lt is r f h =
      subst (TellsOfBlock told) (sym (take_more body i s lt ∙ ap (λ x. take i body ++ x ∷ []) (sym is))) (ends_with told known last (take i body) s r f h)
