-- What an operator does with finite lists of words at its in-ports.
use Rattle.std.specs.Prelude.{ℕ, zero, suc, ◌-◌, ◌%◌, ◌^◌, List, [], ◌∷◌, ◌++◌, nat_eq, slice_index, bit_and, bit_or, bit_xor}
use Rattle.pld_base.specs.Words.{sum_of, difference_of, product_of, less_signed, less_unsigned, truth_of, quotient_signed, quotient_unsigned, remainder_signed, remainder_unsigned, shifted_left, shifted_right, shifted_right_signed}
use Rattle.pld_base.specs.declared.event.Event.{Event}
use Rattle.pld_base.specs.declared.event.Event.TheVariants.{Read as ReadEvent, Write as WriteEvent}
use Rattle.pld_base.specs.Lists.{with, port}
use Rattle.pld_base.specs.Process.{TraceEnd, Returned, Starved, Cut, Trace, Process}
use Rattle.pld_ast.specs.Program.{Signed, Unsigned, Operation1, Keep, Negate, Flip, IsZero, Operation2, EitherOf, BothOf, BitOr, BitXor, BitAnd, Equal, Unequal, Less, AtMost, More, AtLeast, ShiftLeft, ShiftRight, Plus, Minus, Times, Quotient, Remainder, Value, Number, Scalar, Element, Op1, Op2, Action, Skip, Then, Assign, Store, Read, ReadInto, Write, Choose, Repeat, Return, Program}

-- the variables, the words that are left at each in-port, and the events so far
pub record State : Type 0 where
  pub scalars : ℕ → ℕ
  pub arrays : ℕ → ℕ → ℕ
  pub left : ℕ → List ℕ
  pub events : List Event

-- a run that goes on, or one that is over, with its events
pub data Outcome : Type 0 where
  Goes : State → Outcome
  Over : TraceEnd → List Event → Outcome

abbrev pub set_scalar : State → ℕ → ℕ → State
set_scalar st s v = record st { scalars = with st.scalars s v }

abbrev pub set_element : State → ℕ → ℕ → ℕ → State
set_element st t i v = record st { arrays = with st.arrays t (with (st.arrays t) i v) }

abbrev pub is_zero : ℕ → ℕ
is_zero zero = 1
is_zero (suc n) = 0

abbrev pub is_other : ℕ → ℕ
is_other zero = 0
is_other (suc n) = 1

-- 1 where one isn't 0
abbrev pub either_of : ℕ → ℕ → ℕ
either_of zero b = is_other b
either_of (suc a) b = 1

-- 1 where both aren't 0
abbrev pub both_of : ℕ → ℕ → ℕ
both_of zero b = 0
both_of (suc a) b = is_other b

abbrev pub unary_of : Operation1 → ℕ → ℕ
unary_of Keep a = a
unary_of Negate a = difference_of 0 a
unary_of Flip a = bit_xor a (2 ^ 32 - 1)
unary_of IsZero a = is_zero a

abbrev pub binary_of : Operation2 → ℕ → ℕ → ℕ
binary_of EitherOf a b = either_of a b
binary_of BothOf a b = both_of a b
binary_of BitOr a b = bit_or a b
binary_of BitXor a b = bit_xor a b
binary_of BitAnd a b = bit_and a b
binary_of Equal a b = truth_of (nat_eq a b)
binary_of Unequal a b = is_zero (truth_of (nat_eq a b))
binary_of (Less Signed) a b = less_signed a b
binary_of (Less Unsigned) a b = less_unsigned a b
binary_of (AtMost Signed) a b = is_zero (less_signed b a)
binary_of (AtMost Unsigned) a b = is_zero (less_unsigned b a)
binary_of (More Signed) a b = less_signed b a
binary_of (More Unsigned) a b = less_unsigned b a
binary_of (AtLeast Signed) a b = is_zero (less_signed a b)
binary_of (AtLeast Unsigned) a b = is_zero (less_unsigned a b)
binary_of ShiftLeft a b = shifted_left a b
binary_of (ShiftRight Signed) a b = shifted_right_signed a b
binary_of (ShiftRight Unsigned) a b = shifted_right a b
binary_of Plus a b = sum_of a b
binary_of Minus a b = difference_of a b
binary_of Times a b = product_of a b
binary_of (Quotient Signed) a b = quotient_signed a b
binary_of (Quotient Unsigned) a b = quotient_unsigned a b
binary_of (Remainder Signed) a b = remainder_signed a b
binary_of (Remainder Unsigned) a b = remainder_unsigned a b

-- an index, modulo the array's length
abbrev pub index_in : List ℕ → ℕ → ℕ → ℕ
index_in lengths t i = i % slice_index lengths t

abbrev pub value_of : List ℕ → Value → State → ℕ
value_of lengths (Number v) st = v
value_of lengths (Scalar s) st = st.scalars s
value_of lengths (Element t e) st = st.arrays t (index_in lengths t (value_of lengths e st))
value_of lengths (Op1 o a) st = unary_of o (value_of lengths a st)
value_of lengths (Op2 o a b) st = binary_of o (value_of lengths a st) (value_of lengths b st)

-- goes on from where a run goes on
abbrev pub then_do : Outcome → (State → Outcome) → Outcome
then_do (Goes st) go = go st
then_do (Over e events) go = Over e events

-- the first at 0, and else the second
abbrev pub at_zero : {A : Type 0} → ℕ → A → A → A
at_zero zero a b = a
at_zero (suc n) a b = b

-- one more event
abbrev pub and_event : State → Event → State
and_event st e = record st { events = st.events ++ e ∷ [] }

-- takes the next word of a port
abbrev pub take_word : ℕ → List ℕ → State → (ℕ → State → Outcome) → Outcome
take_word p [] st go = Over (Starved p) st.events
take_word p (w ∷ ws) st go =
    go w (record st { left = with st.left p ws; events = st.events ++ ReadEvent (port p) w ∷ [] })

-- at most n turns of a loop
abbrev pub turns : ℕ → (State → ℕ) → (State → Outcome) → State → Outcome
turns zero test body st = at_zero (test st) (Goes st) (Over Cut st.events)
turns (suc n) test body st = at_zero (test st) (Goes st) (then_do (body st) (turns n test body))

-- what an action does, where each execution of a loop makes at most n turns
abbrev pub meaning : List ℕ → Action → ℕ → State → Outcome
meaning lengths Skip n st = Goes st
meaning lengths (Then a b) n st = then_do (meaning lengths a n st) (meaning lengths b n)
meaning lengths (Assign s e) n st = Goes (set_scalar st s (value_of lengths e st))
meaning lengths (Store t i e) n st =
    Goes (set_element st t (index_in lengths t (value_of lengths i st)) (value_of lengths e st))
meaning lengths (Read s p) n st = take_word p (st.left p) st (λ w next. Goes (set_scalar next s w))
meaning lengths (ReadInto t i p) n st =
    take_word p (st.left p) st (λ w next. Goes (set_element next t (index_in lengths t (value_of lengths i st)) w))
meaning lengths (Write p e) n st = Goes (and_event st (WriteEvent (port p) (value_of lengths e st)))
meaning lengths (Choose e a b) n st = at_zero (value_of lengths e st) (meaning lengths b n st) (meaning lengths a n st)
meaning lengths (Repeat e a) n st = turns n (value_of lengths e) (meaning lengths a n) st
meaning lengths Return n st = Over Returned st.events

-- the trace of a run; one that goes on to the end of its text returns
abbrev pub trace_of : Outcome → Trace
trace_of (Goes st) = record { events = st.events; end = Returned }
trace_of (Over e events) = record { events = events; end = e }

-- all variables are 0, and no word was read
abbrev pub start : (ℕ → List ℕ) → State
start ins = record { scalars = λ s. 0; arrays = λ t i. 0; left = ins; events = [] }

-- what an operator does with these words in so many turns
abbrev pub trace : Program → Process
trace p ins n = trace_of (meaning p.lengths p.body n (start ins))
