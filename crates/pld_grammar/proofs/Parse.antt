-- What the verdict from the start means for a parser that gives it.
use Rattle.std.proofs.Common.{ℕ, suc, ◌≤◌, ◌≡◌, refl, sym, ◌∙◌, ap, subst, List, [], ◌∷◌, ◌++◌, length, append_assoc}
use Rattle.pld_grammar.specs.Symbols.{Symbol}
use Rattle.pld_ast.specs.declared.tree.Operator.{Operator}
use Rattle.pld_grammar.specs.Grammar.{Syntax}
use Rattle.pld_grammar.specs.Fault.{IsNarrow, HasContinuation, HasNarrowContinuation, IsFirst, Kind, Syntactic, Nesting, IsFault, syntax, nesting, behind}
use Rattle.pld_grammar.specs.Verdicts.{Says}
use Rattle.pld_grammar.specs.Machine.{Verdict, Fine, Wrong, TooDeep, verdict, start}
use Rattle.pld_grammar.proofs.Faults.{verdict_says}

-- a text that is accepted is narrow
pub fine_is_narrow : (limit : ℕ) (ts : List Symbol) → 1 ≤ limit → verdict limit ts 0 start ≡ Fine → ((op : Operator) × Syntax ts op) × IsNarrow limit 0 ts
fine_is_narrow limit ts l e = subst (Says limit ts) e (verdict_says limit ts l)

pub wrong_is_fault : (limit n : ℕ) (ts : List Symbol) → 1 ≤ limit → verdict limit ts 0 start ≡ Wrong n → IsFault limit ts Syntactic n
wrong_is_fault limit n ts l e = subst (Says limit ts) e (verdict_says limit ts l)

pub deep_is_fault : (limit n : ℕ) (ts : List Symbol) → 1 ≤ limit → verdict limit ts 0 start ≡ TooDeep n → IsFault limit ts Nesting n
deep_is_fault limit n ts l e = subst (Says limit ts) e (verdict_says limit ts l)

no_first : (limit : ℕ) (ts before : List Symbol) (t : Symbol) (after : List Symbol) (op : Operator) → IsFirst limit ts before t after → Syntax ts op → IsNarrow limit 0 ts → ⊥
no_first limit ts before t after op f s n =
    let e : (before ++ t ∷ []) ++ after ≡ ts = append_assoc before (t ∷ []) after ∙ sym f.split in
    f.here (after, op, subst (λ x. Syntax x op) (sym e) s, subst (IsNarrow limit 0) (sym e) n)

-- a narrow text of the grammar has no fault
pub no_fault : (limit n : ℕ) (k : Kind) (ts : List Symbol) (op : Operator) → IsFault limit ts k n → Syntax ts op → IsNarrow limit 0 ts → ⊥
no_fault limit n k ts op (syntax before t after f h) s w = no_first limit ts before t after op f s w
no_fault limit n k ts op (nesting before t after f h) s w = no_first limit ts before t after op f s w
no_fault limit n k ts op (behind h g) s w = g op s

-- a narrow text of the grammar is accepted, with its one operator
pub accepted : (limit : ℕ) (ts : List Symbol) (op : Operator) → 1 ≤ limit → Syntax ts op → IsNarrow limit 0 ts → verdict limit ts 0 start ≡ Fine
accepted limit ts op l s w = go (verdict limit ts 0 start) refl
  where
    go : (v : Verdict) → verdict limit ts 0 start ≡ v → verdict limit ts 0 start ≡ Fine
    go Fine e = e
    go (Wrong n) e = absurd (no_fault limit n Syntactic ts op (wrong_is_fault limit n ts l e) s w)
    go (TooDeep n) e = absurd (no_fault limit n Nesting ts op (deep_is_fault limit n ts l e) s w)

-- the first of two places can't be before the other
first_first : (limit : ℕ) (before more : List Symbol) (t : Symbol) → HasNarrowContinuation limit (before ++ t ∷ more) → HasNarrowContinuation limit (before ++ t ∷ [])
first_first limit before more t h =
    let e : (before ++ t ∷ more) ++ h.0 ≡ (before ++ t ∷ []) ++ (more ++ h.0) = append_assoc before (t ∷ more) h.0 ∙ sym (append_assoc before (t ∷ []) (more ++ h.0)) in
    (more ++ h.0, h.1, subst (λ x. Syntax x h.1) e h.2, subst (IsNarrow limit 0) e h.3)

data Fronts (x y : List Symbol) (t u : Symbol) (a b : List Symbol) : Type 0 where
  one : x ≡ y → t ≡ u → a ≡ b → Fronts x y t u a b
  before : (more : List Symbol) → y ≡ x ++ t ∷ more → Fronts x y t u a b
  behind_it : (more : List Symbol) → x ≡ y ++ u ∷ more → Fronts x y t u a b

one_more_front : (v : Symbol) (x y : List Symbol) (t u : Symbol) (a b : List Symbol) → Fronts x y t u a b → Fronts (v ∷ x) (v ∷ y) t u a b
one_more_front v x y t u a b (one p q r) = one (ap (λ z. v ∷ z) p) q r
one_more_front v x y t u a b (before m p) = before m (ap (λ z. v ∷ z) p)
one_more_front v x y t u a b (behind_it m p) = behind_it m (ap (λ z. v ∷ z) p)

fronts : (x y : List Symbol) (t u : Symbol) (a b : List Symbol) → x ++ t ∷ a ≡ y ++ u ∷ b → Fronts x y t u a b
fronts [] [] t u a b e = one refl (cc e) (cc e)
fronts [] (v ∷ y) t u a b e = before y (let p : t ≡ v = cc e in ap (λ z. z ∷ y) (sym p))
fronts (v ∷ x) [] t u a b e = behind_it x (let p : v ≡ u = cc e in ap (λ z. z ∷ x) p)
fronts (v ∷ x) (w ∷ y) t u a b e =
    let p : v ≡ w = cc e in
    let q : x ++ t ∷ a ≡ y ++ u ∷ b = cc e in
    subst (λ z. Fronts (v ∷ x) (z ∷ y) t u a b) p (one_more_front v x y t u a b (fronts x y t u a b q))

-- one place
pub one_place : (limit : ℕ) (ts x y : List Symbol) (t u : Symbol) (a b : List Symbol) → IsFirst limit ts x t a → IsFirst limit ts y u b → (x ≡ y) × (t ≡ u) × (a ≡ b)
one_place limit ts x y t u a b f g = go (fronts x y t u a b (sym f.split ∙ g.split))
  where
    go : Fronts x y t u a b → (x ≡ y) × (t ≡ u) × (a ≡ b)
    go (one p q r) = (p, q, r)
    go (before m p) = absurd (f.here (first_first limit x m t (subst (HasNarrowContinuation limit) p g.until)))
    go (behind_it m p) = absurd (g.here (first_first limit y m u (subst (HasNarrowContinuation limit) p f.until)))

no_behind : (limit : ℕ) (ts x : List Symbol) (t : Symbol) (a : List Symbol) → IsFirst limit ts x t a → HasNarrowContinuation limit ts → ⊥
no_behind limit ts x t a f h = f.here (first_first limit x a t (subst (HasNarrowContinuation limit) f.split h))

-- a text has at most one fault, at one place
pub one_fault : (limit n n' : ℕ) (k k' : Kind) (ts : List Symbol) → IsFault limit ts k n → IsFault limit ts k' n' → (k ≡ k') × (n ≡ n')
one_fault limit n n' k k' ts (syntax x t a f h) (syntax y u b g i) = (refl, ap (λ z. suc (length z)) (one_place limit ts x y t u a b f g).2)
one_fault limit n n' k k' ts (nesting x t a f h) (nesting y u b g i) = (refl, ap (λ z. suc (length z)) (one_place limit ts x y t u a b f g).2)
one_fault limit n n' k k' ts (syntax x t a f h) (nesting y u b g i) = let p = one_place limit ts x y t u a b f g in absurd (h (subst HasContinuation (cc (p.0, p.1)) i))
one_fault limit n n' k k' ts (nesting x t a f h) (syntax y u b g i) = let p = one_place limit ts x y t u a b f g in absurd (i (subst HasContinuation (cc (p.0, p.1)) h))
one_fault limit n n' k k' ts (syntax x t a f h) (behind w v) = absurd (no_behind limit ts x t a f w)
one_fault limit n n' k k' ts (nesting x t a f h) (behind w v) = absurd (no_behind limit ts x t a f w)
one_fault limit n n' k k' ts (behind w v) (syntax x t a f h) = absurd (no_behind limit ts x t a f w)
one_fault limit n n' k k' ts (behind w v) (nesting x t a f h) = absurd (no_behind limit ts x t a f w)
one_fault limit n n' k k' ts (behind w v) (behind w' v') = (refl, refl)
