-- The micros of a value leave the value in its register.
use Rattle.std.proofs.Common.{◌≡◌, ℕ, zero, suc, ◌+◌, ◌^◌, ◌-◌, ◌<◌, ◌≤◌, ◌≢◌, List, [], ◌∷◌, ◌++◌, refl, sym, ap, ◌∙◌, subst, arith, false}
use Rattle.std.specs.Prelude.{nat_eq, bit_xor, if◌then◌else◌}
use Rattle.std.proofs.lemmas.Bool.Decides.{nat_tests}
use Rattle.std.proofs.lemmas.List.{append-nil}
use Rattle.pld_base.specs.Words.{difference_of}
use Rattle.pld_base.specs.Lists.{with}
use Rattle.pld_base.specs.declared.event.Event.{Event}
use Rattle.fsm_core.specs.declared.micro.Micro.{Micro}
use Rattle.fsm_core.specs.Shapes.{Cells, set_reg, index_at, is_zero as is_zero_core, is_other as is_other_core, either_of as either_of_core, both_of as both_of_core}
use Rattle.fsm_core.specs.Page.{Point, Run, Goes, Held, then_run, one, in_order}
use Rattle.fsm_sched.proofs.Independent.{same_test}
use Rattle.pld_ast.specs.Program.{Signed, Unsigned, Operation1, Keep, Negate, Flip, IsZero, Operation2, EitherOf, BothOf, BitOr, BitXor, BitAnd, Equal, Unequal, Less, AtMost, More, AtLeast, ShiftLeft, ShiftRight, Plus, Minus, Times, Quotient, Remainder, Value, Number, Scalar, Element, Op1, Op2}
use Rattle.pld_ast.specs.Meaning.{State, is_zero, is_other, either_of, both_of, unary_of, binary_of, value_of}
use Rattle.fsm_core.specs.declared.micro.MicroOp.TheVariants as op
use Rattle.fsm_ir.specs.Blocks.{by_two, op1_micros, op1_reg, op1_temps, op2_micro, load_micro, temps_in, reg_of, value_micros}
use Rattle.fsm_back.proofs.Fits.{KnownValue}

abbrev pub point : Cells → (ℕ → List ℕ) → List Event → Point
point c left events = record { cells = c; left = left; events = events }

-- the page has the state's variables, words to read and events
pub record Frame (st : State) (x : Point) : Type 0 where
  pub scalars : (s : ℕ) → s < 64 → x.cells.regs s ≡ st.scalars s
  pub arrays : x.cells.arrays ≡ st.arrays
  pub left : x.left ≡ st.left
  pub events : x.events ≡ st.events

pub order_append : (l : List ℕ) (a b : List Micro) (x : Point) → in_order l (a ++ b) x ≡ then_run (in_order l a x) (in_order l b)
order_append l [] b x = refl
order_append l (m ∷ a) b x = by (one l (m ∷ []) x) (λ y. order_append l a b y)
  where
    by : (o : Run) → ((y : Point) → in_order l (a ++ b) y ≡ then_run (in_order l a y) (in_order l b)) → then_run o (in_order l (a ++ b)) ≡ then_run (then_run o (in_order l a)) (in_order l b)
    by (Goes y) h = h y
    by (Held p events) h = refl

-- some micros, and then others
pub order_then : (l : List ℕ) (a b : List Micro) (x y : Point) (o : Run) → in_order l a x ≡ Goes y → in_order l b y ≡ o → in_order l (a ++ b) x ≡ o
order_then l a b x y o h k = order_append l a b x ∙ ap (λ r. then_run r (in_order l b)) h ∙ k

pub order_held : (l : List ℕ) (a b : List Micro) (x : Point) (p : ℕ) (events : List Event) → in_order l a x ≡ Held p events → in_order l (a ++ b) x ≡ Held p events
order_held l a b x p events h = order_append l a b x ∙ ap (λ r. then_run r (in_order l b)) h

pub other_test : (a b : ℕ) → a ≢ b → nat_eq a b ≡ false
other_test a b h = grind (arith, nat_tests)

pub with_at : (f : ℕ → ℕ) (t v : ℕ) → with f t v t ≡ v
with_at f t v = ap (λ b. if b then v else f t) (same_test t)

pub with_off : (f : ℕ → ℕ) (t v r : ℕ) → r ≢ t → with f t v r ≡ f r
with_off f t v r h = ap (λ b. if b then v else f r) (other_test r t h)

-- ---- one micro

-- tests for zero, as the core and as the language define them
zero_same : (a : ℕ) → is_zero_core a ≡ is_zero a
zero_same zero = refl
zero_same (suc a) = refl

other_same : (a : ℕ) → is_other_core a ≡ is_other a
other_same zero = refl
other_same (suc a) = refl

either_same : (a b : ℕ) → either_of_core a b ≡ either_of a b
either_same zero b = other_same b
either_same (suc a) b = refl

both_same : (a b : ℕ) → both_of_core a b ≡ both_of a b
both_same zero b = refl
both_same (suc a) b = other_same b

-- a word into a register, told in another way
put : (l : List ℕ) (t : ℕ) (x : Point) {v w : ℕ} → v ≡ w → Goes (point (set_reg x.cells t v) x.left x.events) ≡ Goes (point (set_reg x.cells t w) x.left x.events)
put l t x e = ap (λ v. Goes (point (set_reg x.cells t v) x.left x.events)) e

op2_does : (l : List ℕ) (o : Operation2) (t a b : ℕ) (x : Point) → in_order l (op2_micro o t a b ∷ []) x ≡ Goes (point (set_reg x.cells t (binary_of o (x.cells.regs a) (x.cells.regs b))) x.left x.events)
op2_does l EitherOf t a b x = put l t x (either_same (x.cells.regs a) (x.cells.regs b))
op2_does l BothOf t a b x = put l t x (both_same (x.cells.regs a) (x.cells.regs b))
op2_does l BitOr t a b x = refl
op2_does l BitXor t a b x = refl
op2_does l BitAnd t a b x = refl
op2_does l Equal t a b x = refl
op2_does l Unequal t a b x = put l t x (zero_same _)
op2_does l (Less Signed) t a b x = refl
op2_does l (Less Unsigned) t a b x = refl
op2_does l (AtMost Signed) t a b x = put l t x (zero_same _)
op2_does l (AtMost Unsigned) t a b x = put l t x (zero_same _)
op2_does l (More Signed) t a b x = refl
op2_does l (More Unsigned) t a b x = refl
op2_does l (AtLeast Signed) t a b x = put l t x (zero_same _)
op2_does l (AtLeast Unsigned) t a b x = put l t x (zero_same _)
op2_does l ShiftLeft t a b x = refl
op2_does l (ShiftRight Signed) t a b x = refl
op2_does l (ShiftRight Unsigned) t a b x = refl
op2_does l Plus t a b x = refl
op2_does l Minus t a b x = refl
op2_does l Times t a b x = refl
op2_does l (Quotient Signed) t a b x = refl
op2_does l (Quotient Unsigned) t a b x = refl
op2_does l (Remainder Signed) t a b x = refl
op2_does l (Remainder Unsigned) t a b x = refl

-- ---- values

-- the micros lead to cells with this word in register r, where registers below t and all arrays are as before
pub record Valued (l : List ℕ) (ms : List Micro) (t r v : ℕ) (x : Point) : Type 0 where
  pub to : Cells
  pub by : in_order l ms x ≡ Goes (point to x.left x.events)
  pub value : to.regs r ≡ v
  pub low : (s : ℕ) → s < t → to.regs s ≡ x.cells.regs s
  pub arrays : to.arrays ≡ x.cells.arrays

pub frame_valued : (l : List ℕ) (ms : List Micro) (t r v : ℕ) (st : State) (x : Point) (a : Valued l ms t r v x) → 64 ≤ t → Frame st x → Frame st (point a.to x.left x.events)
frame_valued l ms t r v st x a h f = record {
  scalars = λ s k. a.low s (omega arith) ∙ f.scalars s k;
  arrays = a.arrays ∙ f.arrays;
  left = f.left;
  events = f.events;
}

pub reg_below : (e : Value) (t : ℕ) → KnownValue e → 64 ≤ t → reg_of e t < t + temps_in e
reg_below (Number v) t k h = omega arith
reg_below (Scalar s) t k h = omega arith
reg_below (Element u e) t k h = omega arith
reg_below (Op1 o a) t k h = by o (reg_below a t k h)
  where
    by : (o : Operation1) → reg_of a t < t + temps_in a → op1_reg o (t + temps_in a) (reg_of a t) < t + (temps_in a + op1_temps o)
    by Keep below = omega (arith, below)
    by Negate below = omega arith
    by Flip below = omega arith
    by IsZero below = omega arith
reg_below (Op2 o a b) t k h = omega arith

-- one more micro, which puts a word into the next temporary
one_more : (l : List ℕ) (ms : List Micro) (m : Micro) (t r t' u v : ℕ) (x : Point) (a : Valued l ms t r u x) → t ≤ t' → in_order l (m ∷ []) (point a.to x.left x.events) ≡ Goes (point (set_reg a.to t' v) x.left x.events) → Valued l (ms ++ m ∷ []) t t' v x
one_more l ms m t r t' u v x a le h = record {
  to = set_reg a.to t' v;
  by = order_then l ms (m ∷ []) x (point a.to x.left x.events) _ a.by h;
  value = with_at a.to.regs t' v;
  low = λ s k. with_off a.to.regs t' v s (let n : s ≢ t' = omega arith in n) ∙ a.low s k;
  arrays = a.arrays;
}

-- a value, and then an operation on it
op1_more : (l : List ℕ) (o : Operation1) (ms : List Micro) (t r t' u : ℕ) (x : Point) (a : Valued l ms t r u x) → t ≤ t' → Valued l (ms ++ op1_micros o t' r) t (op1_reg o t' r) (unary_of o u) x
op1_more l Keep ms t r t' u x a le = subst (λ m. Valued l m t r u x) (sym (append-nil ms)) a
op1_more l Negate ms t r t' u x a le = one_more l ms (by_two op.Neg t' r) t r t' u (difference_of 0 u) x a le (put l t' (point a.to x.left x.events) (ap (difference_of 0) a.value))
op1_more l Flip ms t r t' u x a le = one_more l ms (by_two op.Not t' r) t r t' u (bit_xor u (2 ^ 32 - 1)) x a le (put l t' (point a.to x.left x.events) (ap (λ i. bit_xor i (2 ^ 32 - 1)) a.value))
op1_more l IsZero ms t r t' u x a le = one_more l ms (by_two op.Lnot t' r) t r t' u (is_zero u) x a le (put l t' (point a.to x.left x.events) (ap is_zero_core a.value ∙ zero_same u))

-- two values, and then a micro
two_more : (l : List ℕ) (ma mb : List Micro) (m : Micro) (t s t2 ra rb u w v : ℕ) (x : Point) (a : Valued l ma t ra u x) (b : Valued l mb s rb w (point a.to x.left x.events)) → t ≤ s → t ≤ t2 → in_order l (m ∷ []) (point b.to x.left x.events) ≡ Goes (point (set_reg b.to t2 v) x.left x.events) → Valued l (ma ++ (mb ++ m ∷ [])) t t2 v x
two_more l ma mb m t s t2 ra rb u w v x a b le le2 h = record {
  to = set_reg b.to t2 v;
  by = order_then l ma (mb ++ m ∷ []) x (point a.to x.left x.events) _ a.by (order_then l mb (m ∷ []) (point a.to x.left x.events) (point b.to x.left x.events) _ b.by h);
  value = with_at b.to.regs t2 v;
  low = λ r k. with_off b.to.regs t2 v r (let n : r ≢ t2 = omega arith in n) ∙ b.low r (omega arith) ∙ a.low r k;
  arrays = b.arrays ∙ a.arrays;
}

pub value_runs : (l : List ℕ) (e : Value) (t : ℕ) (st : State) (x : Point) → KnownValue e → 64 ≤ t → Frame st x → Valued l (value_micros e t) t (reg_of e t) (value_of l e st) x
value_runs l (Number v) t st x k h f = record {
  to = set_reg x.cells t v;
  by = refl;
  value = with_at x.cells.regs t v;
  low = λ s j. with_off x.cells.regs t v s (let n : s ≢ t = omega arith in n);
  arrays = refl;
}
value_runs l (Scalar s) t st x k h f = record {
  to = x.cells;
  by = refl;
  value = f.scalars s k;
  low = λ r j. refl;
  arrays = refl;
}
value_runs l (Element u e) t st x k h f = by (value_runs l e t st x k h f)
  where
    by : (a : Valued l (value_micros e t) t (reg_of e t) (value_of l e st) x) → Valued l (value_micros (Element u e) t) t (reg_of (Element u e) t) (value_of l (Element u e) st) x
    by a = one_more l (value_micros e t) (load_micro (t + temps_in e) u (reg_of e t)) t (reg_of e t) (t + temps_in e) (value_of l e st) (value_of l (Element u e) st) x a (omega arith) (ap (λ i. Goes (point (set_reg a.to (t + temps_in e) (a.to.arrays u (index_at l u i))) x.left x.events)) a.value ∙ ap (λ c. Goes (point (set_reg a.to (t + temps_in e) (c u (index_at l u (value_of l e st)))) x.left x.events)) (a.arrays ∙ f.arrays))
value_runs l (Op1 o e) t st x k h f = op1_more l o (value_micros e t) t (reg_of e t) (t + temps_in e) (value_of l e st) x (value_runs l e t st x k h f) (omega arith)
value_runs l (Op2 o d e) t st x k h f = by (value_runs l d t st x k.0 h f) (λ y g. value_runs l e (t + temps_in d) st y k.1 (omega arith) g)
  where
    by : (a : Valued l (value_micros d t) t (reg_of d t) (value_of l d st) x) → ((y : Point) → Frame st y → Valued l (value_micros e (t + temps_in d)) (t + temps_in d) (reg_of e (t + temps_in d)) (value_of l e st) y) → Valued l (value_micros (Op2 o d e) t) t (reg_of (Op2 o d e) t) (value_of l (Op2 o d e) st) x
    by a second = joined (second (point a.to x.left x.events) (frame_valued l (value_micros d t) t (reg_of d t) (value_of l d st) st x a h f))
      where
        joined : (b : Valued l (value_micros e (t + temps_in d)) (t + temps_in d) (reg_of e (t + temps_in d)) (value_of l e st) (point a.to x.left x.events)) → Valued l (value_micros (Op2 o d e) t) t (reg_of (Op2 o d e) t) (value_of l (Op2 o d e) st) x
        joined b =
            let below : reg_of d t < t + temps_in d = reg_below d t k.0 h in
            two_more l (value_micros d t) (value_micros e (t + temps_in d)) (op2_micro o (t + temps_in d + temps_in e) (reg_of d t) (reg_of e (t + temps_in d))) t (t + temps_in d) (t + temps_in d + temps_in e) (reg_of d t) (reg_of e (t + temps_in d)) (value_of l d st) (value_of l e st) (value_of l (Op2 o d e) st) x a b (omega arith) (omega arith) (op2_does l o (t + temps_in d + temps_in e) (reg_of d t) (reg_of e (t + temps_in d)) (point b.to x.left x.events) ∙ ap (λ i. Goes (point (set_reg b.to (t + temps_in d + temps_in e) (binary_of o i (b.to.regs (reg_of e (t + temps_in d))))) x.left x.events)) (b.low (reg_of d t) below ∙ a.value) ∙ ap (λ i. Goes (point (set_reg b.to (t + temps_in d + temps_in e) (binary_of o (value_of l d st) i)) x.left x.events)) b.value)
