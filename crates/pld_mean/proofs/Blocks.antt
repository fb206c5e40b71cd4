-- What lists of statements, choices and loops do, by what their parts do.
use Rattle.std.proofs.Common.{◌≡◌, ℕ, zero, suc, ◌+◌, ◌-◌, ◌<◌, ◌≤◌, List, drop, sym, ap, ◌∙◌, subst, arith}
use Rattle.pld_base.specs.Process.{TraceEnd}
use Rattle.pld_base.specs.declared.event.Event.{Event}
use Rattle.pld_ast.specs.declared.tree.Expr.{Expr}
use Rattle.pld_ast.specs.declared.tree.Stmt.{Stmt}
use Rattle.pld_ast.specs.declared.tree.Stmt.TheVariants.{If, While}
use Rattle.pld_ast.specs.Program.{Program, Action}
use Rattle.pld_ast.specs.Meaning.{State, Outcome, Goes, Over, value_of, then_do, turns, meaning}
use Rattle.pld_ast.specs.Resolve.{Names, value_in, action_in, block_in}
use Rattle.pld_ast.specs.Sound.{IsKnownValue, IsKnown}
use Rattle.pld_ast.proofs.Views.{action_in-If, action_in-While}
use Rattle.std.specs.Prelude.{IfOk, Result, Ok, Err}
use Rattle.pld_mean.specs.declared.vars.CEnd.{CEnd}
use Rattle.pld_mean.specs.declared.vars.Flow.{Flow}
use Rattle.pld_mean.specs.declared.vars.Flow.TheVariants as flow
use Rattle.pld_mean.specs.declared.vars.Vars.{Vars}
use Rattle.pld_mean.specs.Run.{Does}
use Rattle.pld_mean.proofs.Execs.{at_none, at_some}

pub on_ok : {A E : Type 0} {P Q : A → Type 0} (r : Result A E) → IfOk r P → ((x : A) → P x → Q x) → IfOk r Q
on_ok (Ok x) h f = f x h
on_ok (Err e) h f = tt

-- what was done, where it is over or goes on
pub over_at : (g : Program) (ins : List (List ℕ)) (n : ℕ) (a : Action) (old : Vars) (f : Flow) (new : Vars) (end : CEnd) → f ≡ flow.Over end → Does g ins n a old f new → Does g ins n a old (flow.Over end) new
over_at g ins n a old f new end is h = subst (λ x. Does g ins n a old x new) is h

pub goes_at : (g : Program) (ins : List (List ℕ)) (n : ℕ) (a : Action) (old : Vars) (f : Flow) (new : Vars) → f ≡ flow.Goes → Does g ins n a old f new → Does g ins n a old flow.Goes new
goes_at g ins n a old f new is h = subst (λ x. Does g ins n a old x new) is h

pub did_same : {E : Type 0} (g : Program) (ins : List (List ℕ)) (n : ℕ) (a b : Action) (old new : Vars) (r : Result Flow E) → a ≡ b → IfOk r (λ f. Does g ins n b old f new) → IfOk r (λ f. Does g ins n a old f new)
did_same {E} g ins n a b old new r e h = subst (λ x. IfOk r (λ f. Does g ins n x old f new)) (sym e) h

module _ (g : Program) (d : Names) (n : ℕ) where
  -- an action means this, where its names are declared
  abbrev pub Means : Action → State → Outcome → Type 0
  Means a st o = IsKnown g a → o ≡ meaning g.lengths a n st

  -- a value was computed
  abbrev pub IsOf : Expr → State → ℕ → Type 0
  IsOf e st r = IsKnownValue g (value_in d e) → r ≡ value_of g.lengths (value_in d e) st

  same_action : (a b : Action) (st : State) (o : Outcome) → a ≡ b → Means b st o → Means a st o
  same_action a b st o e h = subst (λ x. Means x st o) (sym e) h

  -- the first statements are done, and the others are left
  abbrev pub Done : List Stmt → ℕ → State → State → Type 0
  Done body i first st = IsKnown g (block_in d body) → IsKnown g (block_in d (drop i body)) × (meaning g.lengths (block_in d (drop i body)) n st ≡ meaning g.lengths (block_in d body) n first)

  -- a choice

  pub if_none : (s : Stmt) (e : Expr) (a b got : List Stmt) (st : State) (r : ℕ) (o : Outcome) → s ≡ If e a b → got ≡ b → IsOf e st r → r ≡ 0 → Means (block_in d got) st o → Means (action_in d s) st o
  if_none s e a b got st r o is gets value none h =
      same_action _ _ st o (ap (action_in d) is ∙ action_in-If d e a b) (λ k. subst (λ x. Means (block_in d x) st o) gets h k.2 ∙ at_none r _ _ _ (value k.0) none)

  pub if_some : (s : Stmt) (e : Expr) (a b got : List Stmt) (st : State) (r : ℕ) (o : Outcome) → s ≡ If e a b → got ≡ a → IsOf e st r → (r ≡ 0 → ⊥) → Means (block_in d got) st o → Means (action_in d s) st o
  if_some s e a b got st r o is gets value some h =
      same_action _ _ st o (ap (action_in d) is ∙ action_in-If d e a b) (λ k. subst (λ x. Means (block_in d x) st o) gets h k.1 ∙ at_some r _ _ _ (value k.0) some)

  -- a loop that may make k more turns
  abbrev pub loop : Expr → List Stmt → ℕ → State → Outcome
  loop e a k st = turns k (value_of g.lengths (value_in d e)) (meaning g.lengths (block_in d a) n) st

  -- so many turns of a loop are made
  abbrev pub Turned : Expr → List Stmt → ℕ → State → State → Type 0
  Turned e a made first st = IsKnownValue g (value_in d e) → IsKnown g (block_in d a) → loop e a (n - made) st ≡ loop e a n first

  pub none_turned : (e : Expr) (a : List Stmt) (st : State) → Turned e a 0 st st
  none_turned e a st ke ka = let none : n - 0 ≡ n = omega arith in ap (λ k. loop e a k st) none

  of_while : (s : Stmt) (e : Expr) (a : List Stmt) (first : State) (o : Outcome) → s ≡ While e a → (IsKnownValue g (value_in d e) → IsKnown g (block_in d a) → o ≡ loop e a n first) → Means (action_in d s) first o
  of_while s e a first o is h = same_action _ _ first o (ap (action_in d) is ∙ action_in-While d e a) (λ k. h k.0 k.1)

  stops : (e : Expr) (a : List Stmt) (k r : ℕ) (st : State) → r ≡ value_of g.lengths (value_in d e) st → r ≡ 0 → Goes st ≡ loop e a k st
  stops e a zero r st value none = at_none r _ _ _ value none
  stops e a (suc k) r st value none = at_none r _ _ _ value none

  pub while_none : (s : Stmt) (e : Expr) (a : List Stmt) (made : ℕ) (first st : State) (r : ℕ) → s ≡ While e a → Turned e a made first st → IsOf e st r → r ≡ 0 → Means (action_in d s) first (Goes st)
  while_none s e a made first st r is turned value none = of_while s e a first _ is (λ ke ka. stops e a (n - made) r st (value ke) none ∙ turned ke ka)

  turn : (e : Expr) (a got : List Stmt) (made : ℕ) (first st : State) (r : ℕ) (o : Outcome) → Turned e a made first st → made < n → got ≡ a → IsOf e st r → (r ≡ 0 → ⊥) → Means (block_in d got) st o → IsKnownValue g (value_in d e) → IsKnown g (block_in d a) → then_do o (loop e a (n - (made + 1))) ≡ loop e a n first
  turn e a got made first st r o turned lt gets value some h ke ka =
      let fewer : n - made ≡ suc (n - (made + 1)) = omega arith in
      ap (λ x. then_do x (loop e a (n - (made + 1)))) (subst (λ x. Means (block_in d x) st o) gets h ka)
      ∙ at_some r _ (Goes st) _ (value ke) some
      ∙ ap (λ k. loop e a k st) (sym fewer)
      ∙ turned ke ka

  pub while_over : (s : Stmt) (e : Expr) (a got : List Stmt) (made : ℕ) (first st : State) (r : ℕ) (end : TraceEnd) (events : List Event) → s ≡ While e a → Turned e a made first st → made < n → got ≡ a → IsOf e st r → (r ≡ 0 → ⊥) → Means (block_in d got) st (Over end events) → Means (action_in d s) first (Over end events)
  while_over s e a got made first st r end events is turned lt gets value some h =
      of_while s e a first _ is (turn e a got made first st r _ turned lt gets value some h)

  pub while_on : (e : Expr) (a got : List Stmt) (made : ℕ) (first st st' : State) (r : ℕ) → Turned e a made first st → made < n → got ≡ a → IsOf e st r → (r ≡ 0 → ⊥) → Means (block_in d got) st (Goes st') → Turned e a (made + 1) first st'
  while_on e a got made first st st' r turned lt gets value some h = turn e a got made first st r _ turned lt gets value some h

  pub while_ended : (s : Stmt) (e : Expr) (a : List Stmt) (made : ℕ) (first st : State) (o : Outcome) → s ≡ While e a → Turned e a made first st → n ≤ made → (IsKnownValue g (value_in d e) → o ≡ turns 0 (value_of g.lengths (value_in d e)) Goes st) → Means (action_in d s) first o
  while_ended s e a made first st o is turned le h =
      let none : n - made ≡ 0 = omega arith in
      of_while s e a first o is (λ ke ka. h ke ∙ ap (λ k. loop e a k st) (sym none) ∙ turned ke ka)
