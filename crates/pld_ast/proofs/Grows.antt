-- More turns and more words extend a run.
use Rattle.std.proofs.Common.{◌≡◌, ℕ, zero, suc, ◌≤◌, List, [], ◌∷◌, ◌++◌, ◌⊎◌, inl, inr, refl, sym, ap, subst, ◌∙◌, arith, Bool, true, false}
use Rattle.std.specs.Prelude.{nat_eq, if◌then◌else◌}
use std.Path.{fun_ext}
use Rattle.std.proofs.lemmas.Bool.{eqb-true}
use Rattle.pld_base.specs.Lists.{with, port}
use Rattle.pld_base.specs.declared.event.Event.{Event}
use Rattle.pld_base.specs.declared.event.Event.TheVariants.{Read as ReadEvent, Write as WriteEvent}
use Rattle.pld_ast.specs.Program.{Value, Number, Scalar, Element, Op1, Op2, Action, Skip, Then, Assign, Store, Read, ReadInto, Write, Choose, Repeat, Return}
use Rattle.pld_ast.specs.Meaning.{State, Outcome, Goes, Over, set_scalar, set_element, unary_of, binary_of, index_in, value_of, then_do, at_zero, and_event, take_word, turns, meaning}
use Rattle.pld_base.specs.Prefix.{IsPrefixOf}
use Rattle.pld_base.specs.Process.{Returned, Starved, Cut}
use Rattle.pld_base.proofs.Prefixes.{prefix_refl, prefix_trans, prefix_more}

abbrev pub events_of : Outcome → List Event
events_of (Goes st) = st.events
events_of (Over e events) = events

-- events are only added

abbrev Extends : (State → Outcome) → Type 0
Extends go = (st : State) → IsPrefixOf st.events (events_of (go st))

then_extends : (o : Outcome) (go : State → Outcome) → Extends go → IsPrefixOf (events_of o) (events_of (then_do o go))
then_extends (Goes st) go h = h st
then_extends (Over e events) go h = prefix_refl events

zero_extends : (v : ℕ) (a b : Outcome) (events : List Event) → IsPrefixOf events (events_of a) → IsPrefixOf events (events_of b) → IsPrefixOf events (events_of (at_zero v a b))
zero_extends zero a b events h k = h
zero_extends (suc v) a b events h k = k

take_extends : (p : ℕ) (ws : List ℕ) (st : State) (go : ℕ → State → Outcome) → ((w : ℕ) → Extends (go w)) → IsPrefixOf st.events (events_of (take_word p ws st go))
take_extends p [] st go h = prefix_refl st.events
take_extends p (w ∷ ws) st go h =
    let next : State = record st { left = with st.left p ws; events = st.events ++ ReadEvent (port p) w ∷ [] } in
    prefix_trans (prefix_more st.events (ReadEvent (port p) w ∷ [])) (h w next)

turns_extends : (k : ℕ) (test : State → ℕ) (body : State → Outcome) → Extends body → Extends (turns k test body)
turns_extends zero test body h st = zero_extends (test st) (Goes st) (Over Cut st.events) st.events (prefix_refl _) (prefix_refl _)
turns_extends (suc k) test body h st =
    zero_extends (test st) (Goes st) (then_do (body st) (turns k test body)) st.events (prefix_refl _) (prefix_trans (h st) (then_extends (body st) (turns k test body) (turns_extends k test body h)))

extends : (lengths : List ℕ) (a : Action) (n : ℕ) → Extends (meaning lengths a n)
extends l Skip n st = prefix_refl _
extends l (Then a b) n st = prefix_trans (extends l a n st) (then_extends (meaning l a n st) (meaning l b n) (extends l b n))
extends l (Assign s e) n st = prefix_refl _
extends l (Store t i e) n st = prefix_refl _
extends l (Read s p) n st = take_extends p (st.left p) st (λ w next. Goes (set_scalar next s w)) (λ w next. prefix_refl _)
extends l (ReadInto t i p) n st = take_extends p (st.left p) st (λ w next. Goes (set_element next t (index_in l t (value_of l i st)) w)) (λ w next. prefix_refl _)
extends l (Write p e) n st = prefix_more _ _
extends l (Choose e a b) n st = zero_extends (value_of l e st) (meaning l b n st) (meaning l a n st) st.events (extends l b n st) (extends l a n st)
extends l (Repeat e a) n st = turns_extends n (value_of l e) (meaning l a n) (extends l a n) st
extends l Return n st = prefix_refl _

-- more words at each port

abbrev pub more : (ℕ → List ℕ) → State → State
more x st = record st { left = λ p. st.left p ++ x p }

value_more : (l : List ℕ) (x : ℕ → List ℕ) (e : Value) (st : State) → value_of l e (more x st) ≡ value_of l e st
value_more l x (Number v) st = refl
value_more l x (Scalar s) st = refl
value_more l x (Element t e) st = ap (λ v. st.arrays t (index_in l t v)) (value_more l x e st)
value_more l x (Op1 o a) st = ap (unary_of o) (value_more l x a st)
value_more l x (Op2 o a b) st = ap (λ v. binary_of o v (value_of l b (more x st))) (value_more l x a st) ∙ ap (binary_of o (value_of l a st)) (value_more l x b st)

-- o' is what o becomes with more words, and m turns in place of n
abbrev pub Grows : ℕ → ℕ → (ℕ → List ℕ) → Outcome → Outcome → Type 0
Grows n m x (Goes st) o' = o' ≡ Goes (more x st)
Grows n m x (Over Returned events) o' = o' ≡ Over Returned events
Grows n m x (Over (Starved p) events) o' = (x p ≡ [] → o' ≡ Over (Starved p) events) × ((o' ≡ Over (Starved p) events) ⊎ ((w : ℕ) × IsPrefixOf (events ++ ReadEvent (port p) w ∷ []) (events_of o')))
Grows n m x (Over Cut events) o' = IsPrefixOf events (events_of o') × (n ≡ m → o' ≡ Over Cut events)

left_more : (b : Bool) (ws xs other more_other : List ℕ) → (if b then ws ++ xs else (other ++ more_other)) ≡ (if b then ws else other) ++ (if b then xs else more_other)
left_more true ws xs other more_other = refl
left_more false ws xs other more_other = refl

x_same : (x : ℕ → List ℕ) (p q : ℕ) (b : Bool) → nat_eq q p ≡ b → (if b then x p else x q) ≡ x q
x_same x p q true e = ap x (sym (eqb-true q p e))
x_same x p q false e = refl

module _ (n m : ℕ) (x : ℕ → List ℕ) where
  then_grows : (o o' : Outcome) (go go' : State → Outcome) → Grows n m x o o' → ((st : State) → Grows n m x (go st) (go' (more x st))) → Extends go' → Grows n m x (then_do o go) (then_do o' go')
  then_grows (Goes st) o' go go' h f ext = subst (λ r. Grows n m x (go st) (then_do r go')) (sym h) (f st)
  then_grows (Over Returned events) o' go go' h f ext = ap (λ r. then_do r go') h
  then_grows (Over (Starved p) events) o' go go' h f ext =
      (λ e. ap (λ r. then_do r go') (h.0 e), elim h.1 [ inl e ↦ inl (ap (λ r. then_do r go') e) | inr k ↦ inr (k.0, prefix_trans k.1 (then_extends o' go' ext)) ])
  then_grows (Over Cut events) o' go go' h f ext =
      (prefix_trans h.0 (then_extends o' go' ext), λ e. ap (λ r. then_do r go') (h.1 e))

  zero_grows : (v v' : ℕ) (a b a' b' : Outcome) → v' ≡ v → Grows n m x a a' → Grows n m x b b' → Grows n m x (at_zero v a b) (at_zero v' a' b')
  zero_grows zero v' a b a' b' e h k = subst (λ u. Grows n m x a (at_zero u a' b')) (sym e) h
  zero_grows (suc v) v' a b a' b' e h k = subst (λ u. Grows n m x b (at_zero u a' b')) (sym e) k

  -- after a read
  take_grows : (p : ℕ) (ws : List ℕ) (st : State) (go go' : ℕ → State → Outcome) → ((w : ℕ) (next : State) → Grows n m x (go w next) (go' w (more x next))) → ((w : ℕ) → Extends (go' w)) → Grows n m x (take_word p ws st go) (take_word p (ws ++ x p) (more x st) go')
  take_grows p [] st go go' f ext = starved (x p) refl
    where
      starved : (xs : List ℕ) → x p ≡ xs → Grows n m x (Over (Starved p) st.events) (take_word p xs (more x st) go')
      starved [] e = (λ h. refl, inl refl)
      starved (w ∷ xs) e =
          let next : State = record (more x st) { left = with (more x st).left p xs; events = st.events ++ ReadEvent (port p) w ∷ [] } in
          (λ h. cc (h, e), inr (w, ext w next))
  take_grows p (w ∷ ws) st go go' f ext =
      let next : State = record st { left = with st.left p ws; events = st.events ++ ReadEvent (port p) w ∷ [] } in
      let same : with (more x st).left p (ws ++ x p) ≡ (λ q. with st.left p ws q ++ x q) =
      fun_ext (λ q. left_more (nat_eq q p) ws (x p) (st.left q) (x q) ∙ ap (λ l. with st.left p ws q ++ l) (x_same x p q (nat_eq q p) refl)) in
      subst (λ l. Grows n m x (go w next) (go' w (record next { left = l }))) (sym same) (f w next)

  turns_grows : (test test' : State → ℕ) (body body' : State → Outcome) → ((st : State) → test' (more x st) ≡ test st) → ((st : State) → Grows n m x (body st) (body' (more x st))) → Extends body' → (k j : ℕ) → k ≤ j → (n ≡ m → k ≡ j) → (st : State) → Grows n m x (turns k test body st) (turns j test' body' (more x st))
  turns_grows test test' body body' t b ext zero zero le same st =
      zero_grows (test st) (test' (more x st)) (Goes st) (Over Cut st.events) _ _ (t st) refl (prefix_refl _, λ e. refl)
  turns_grows test test' body body' t b ext zero (suc j) le same st =
      let on = turns j test' body' in
      zero_grows (test st) (test' (more x st)) (Goes st) (Over Cut st.events) _ (then_do (body' (more x st)) on) (t st) refl (prefix_trans (ext (more x st)) (then_extends (body' (more x st)) on (turns_extends j test' body' ext)), λ e. absurd (cc (same e)))
  turns_grows test test' body body' t b ext (suc k) zero le same st = absurd (omega arith)
  turns_grows test test' body body' t b ext (suc k) (suc j) le same st =
      zero_grows (test st) (test' (more x st)) (Goes st) (then_do (body st) (turns k test body)) _ (then_do (body' (more x st)) (turns j test' body')) (t st) refl (then_grows (body st) (body' (more x st)) (turns k test body) (turns j test' body') (b st) (λ s. turns_grows test test' body body' t b ext k j (omega arith) (λ e. let d = same e in omega arith) s) (turns_extends j test' body' ext))

  pub grows : (l : List ℕ) → n ≤ m → (a : Action) (st : State) → Grows n m x (meaning l a n st) (meaning l a m (more x st))
  grows l le Skip st = refl
  grows l le (Then a b) st = then_grows (meaning l a n st) (meaning l a m (more x st)) (meaning l b n) (meaning l b m) (grows l le a st) (grows l le b) (extends l b m)
  grows l le (Assign s e) st = ap (λ v. Goes (set_scalar (more x st) s v)) (value_more l x e st)
  grows l le (Store t i e) st = ap (λ v. Goes (set_element (more x st) t (index_in l t (value_of l i (more x st))) v)) (value_more l x e st) ∙ ap (λ v. Goes (set_element (more x st) t (index_in l t v) (value_of l e st))) (value_more l x i st)
  grows l le (Read s p) st = take_grows p (st.left p) st (λ w next. Goes (set_scalar next s w)) (λ w next. Goes (set_scalar next s w)) (λ w next. refl) (λ w next. prefix_refl _)
  grows l le (ReadInto t i p) st =
      let go : ℕ → ℕ → State → Outcome = λ v w next. Goes (set_element next t (index_in l t v) w) in
      take_grows p (st.left p) st (go (value_of l i st)) (go (value_of l i (more x st))) (λ w next. ap (λ v. go v w (more x next)) (value_more l x i st)) (λ w next. prefix_refl _)
  grows l le (Write p e) st = ap (λ v. Goes (and_event (more x st) (WriteEvent (port p) v))) (value_more l x e st)
  grows l le (Choose e a b) st = zero_grows (value_of l e st) (value_of l e (more x st)) (meaning l b n st) (meaning l a n st) (meaning l b m (more x st)) (meaning l a m (more x st)) (value_more l x e st) (grows l le b st) (grows l le a st)
  grows l le (Repeat e a) st = turns_grows (value_of l e) (value_of l e) (meaning l a n) (meaning l a m) (value_more l x e) (grows l le a) (extends l a m) n m le (λ e. e) st
  grows l le Return st = refl
