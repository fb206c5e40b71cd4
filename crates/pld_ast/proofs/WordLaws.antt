-- Every value of a program is a word, and so is whatever it writes.
use Rattle.std.proofs.Common.{◌≡◌, ℕ, zero, suc, ◌-◌, ◌/◌, ◌%◌, ◌<◌, ◌≤◌, ◌^◌, List, [], ◌∷◌, ◌++◌, refl, sym, subst, arith, Bool, true, false}
use Rattle.std.proofs.lemmas.Bool.{ltb-false}
use Rattle.std.proofs.lemmas.Nat.{or_lt, xor_lt, and_le_l}
use Rattle.std.proofs.Math.Nat.{div-le_self}
use Rattle.std.specs.Prelude.{nat_lt, nat_eq, if◌then◌else◌, All}
use Rattle.pld_base.specs.Events.{words_written}
use Rattle.pld_base.specs.declared.event.Event.{Event}
use Rattle.pld_base.specs.declared.event.Event.TheVariants.{Read as ReadEvent, Write as WriteEvent}
use Rattle.pld_base.specs.Lists.{with, port}
use Rattle.pld_base.specs.Process.{Cut, Inputs, AreWords, WritesWords}
use Rattle.pld_base.proofs.Events.{words_written-append}
use Rattle.std.proofs.lemmas.List.Elements.{All-nil, All-cons, All-append, All-head, All-tail}
use Rattle.pld_base.specs.Words.{IsWord, truth_of, quotient_signed, quotient_unsigned, remainder_signed, remainder_unsigned, shifted_right, shifted_right_signed, size_of, is_same_sign}
use Rattle.pld_ast.specs.Program.{Action, Skip, Then, Assign, Store, Read, ReadInto, Write, Choose, Repeat, Return, Signed, Unsigned, Operation1, Keep, Negate, Flip, IsZero, Operation2, EitherOf, BothOf, BitOr, BitXor, BitAnd, Equal, Unequal, Less, AtMost, More, AtLeast, ShiftLeft, ShiftRight, Plus, Minus, Times, Quotient, Remainder, Value, Number, Scalar, Element, Op1, Op2, Program}
use Rattle.pld_ast.specs.Meaning.{State, Outcome, Goes, Over, set_scalar, set_element, take_word, then_do, at_zero, turns, meaning, trace_of, start, trace, is_zero, is_other, either_of, both_of, unary_of, binary_of, index_in, value_of}
use Rattle.pld_ast.specs.Sound.{IsKnownValue, IsKnown, IsSound}
use Rattle.pld_ast.specs.AreWords.{WroteWords, StateWords}

is_zero_word : (a : ℕ) → is_zero a < 2 ^ 32
is_zero_word zero = omega arith
is_zero_word (suc a) = omega arith

is_other_word : (a : ℕ) → is_other a < 2 ^ 32
is_other_word zero = omega arith
is_other_word (suc a) = omega arith

truth_word : (b : Bool) → truth_of b < 2 ^ 32
truth_word true = omega arith
truth_word false = omega arith

either_word : (a b : ℕ) → either_of a b < 2 ^ 32
either_word zero b = is_other_word b
either_word (suc a) b = omega arith

both_word : (a b : ℕ) → both_of a b < 2 ^ 32
both_word zero b = omega arith
both_word (suc a) b = is_other_word b

pub if_word : (b : Bool) (x y : ℕ) → x < 2 ^ 32 → y < 2 ^ 32 → (if b then x else y) < 2 ^ 32
if_word true x y h k = h
if_word false x y h k = k

div_word : (a b : ℕ) → a < 2 ^ 32 → a / b < 2 ^ 32
div_word a b h = grind arith

mod_word : (a b : ℕ) → a < 2 ^ 32 → a % suc b < 2 ^ 32
mod_word a b h = grind arith

modulo_word : (a : ℕ) → a % 2 ^ 32 < 2 ^ 32
modulo_word a = omega arith

shifted_word : (a b : ℕ) → a < 2 ^ 32 → shifted_right a b < 2 ^ 32
shifted_word a b h = omega (arith, div-le_self a (2 ^ (b % 32)))

signed_shift_word : (a b : ℕ) → a < 2 ^ 32 → shifted_right_signed a b < 2 ^ 32
signed_shift_word a b h =
    if_word (nat_lt a (2 ^ 31)) _ _ (shifted_word a b h) (let d = (2 ^ 32 - 1 - a) / 2 ^ (b % 32) in let k : 2 ^ 32 - 1 - d < 2 ^ 32 = omega arith in k)

size_small : (a : ℕ) → a < 2 ^ 32 → size_of a < 2 ^ 32
size_small a h = small (nat_lt a (2 ^ 31)) refl
  where
    small : (b : Bool) → nat_lt a (2 ^ 31) ≡ b → (if b then a else 2 ^ 32 - a) < 2 ^ 32
    small true e = h
    small false e = let low : 2 ^ 31 ≤ a = ltb-false a (2 ^ 31) e in omega arith

quotient_word : (a b : ℕ) → a < 2 ^ 32 → quotient_signed a b < 2 ^ 32
quotient_word a zero h = omega arith
quotient_word a (suc b) h =
    if_word (is_same_sign a (suc b)) _ _ (div_word (size_of a) (size_of (suc b)) (size_small a h)) (modulo_word _)

-- a remainder by 0 is the dividend
any_mod_word : (a b : ℕ) → a < 2 ^ 32 → a % b < 2 ^ 32
any_mod_word a zero h = grind arith
any_mod_word a (suc b) h = mod_word a b h

remainder_word : (a b : ℕ) → a < 2 ^ 32 → remainder_signed a b < 2 ^ 32
remainder_word a zero h = h
remainder_word a (suc b) h =
    if_word (nat_lt a (2 ^ 31)) _ _ (any_mod_word (size_of a) (size_of (suc b)) (size_small a h)) (modulo_word _)

unsigned_quotient_word : (a b : ℕ) → a < 2 ^ 32 → quotient_unsigned a b < 2 ^ 32
unsigned_quotient_word a zero h = omega arith
unsigned_quotient_word a (suc b) h = div_word a (suc b) h

unsigned_remainder_word : (a b : ℕ) → a < 2 ^ 32 → remainder_unsigned a b < 2 ^ 32
unsigned_remainder_word a zero h = h
unsigned_remainder_word a (suc b) h = mod_word a b h

pub unary_word : (o : Operation1) (a : ℕ) → a < 2 ^ 32 → unary_of o a < 2 ^ 32
unary_word Keep a h = h
unary_word Negate a h = modulo_word _
unary_word Flip a h = xor_lt 32 a (2 ^ 32 - 1) h (omega arith)
unary_word IsZero a h = is_zero_word a

pub binary_word : (o : Operation2) (a b : ℕ) → a < 2 ^ 32 → b < 2 ^ 32 → binary_of o a b < 2 ^ 32
binary_word EitherOf a b h k = either_word a b
binary_word BothOf a b h k = both_word a b
binary_word BitOr a b h k = or_lt 32 a b h k
binary_word BitXor a b h k = xor_lt 32 a b h k
binary_word BitAnd a b h k = let le = and_le_l a b in omega arith
binary_word Equal a b h k = truth_word _
binary_word Unequal a b h k = is_zero_word _
binary_word (Less Signed) a b h k = truth_word _
binary_word (Less Unsigned) a b h k = truth_word _
binary_word (AtMost Signed) a b h k = is_zero_word _
binary_word (AtMost Unsigned) a b h k = is_zero_word _
binary_word (More Signed) a b h k = truth_word _
binary_word (More Unsigned) a b h k = truth_word _
binary_word (AtLeast Signed) a b h k = is_zero_word _
binary_word (AtLeast Unsigned) a b h k = is_zero_word _
binary_word ShiftLeft a b h k = modulo_word _
binary_word (ShiftRight Signed) a b h k = signed_shift_word a b h
binary_word (ShiftRight Unsigned) a b h k = shifted_word a b h
binary_word Plus a b h k = modulo_word _
binary_word Minus a b h k = modulo_word _
binary_word Times a b h k = modulo_word _
binary_word (Quotient Signed) a b h k = quotient_word a b h
binary_word (Quotient Unsigned) a b h k = unsigned_quotient_word a b h
binary_word (Remainder Signed) a b h k = remainder_word a b h
binary_word (Remainder Unsigned) a b h k = unsigned_remainder_word a b h

pub value_word : (g : Program) (e : Value) (st : State) → IsKnownValue g e → StateWords st → IsWord (value_of g.lengths e st)
value_word g (Number v) st f w = f
value_word g (Scalar s) st f w = w.scalars s
value_word g (Element t e) st f w = w.arrays t (index_in g.lengths t (value_of g.lengths e st))
value_word g (Op1 o a) st f w = unary_word o (value_of g.lengths a st) (value_word g a st f w)
value_word g (Op2 o a b) st f w = binary_word o (value_of g.lengths a st) (value_of g.lengths b st) (value_word g a st f.0 w) (value_word g b st f.1 w)

-- ---- whatever is written

wrote_more : (events : List Event) (e : Event) → WroteWords events → ((p : ℕ) → All IsWord (words_written (e ∷ []) p)) → WroteWords (events ++ e ∷ [])
wrote_more events e w h p = subst (All IsWord) (sym (words_written-append events (e ∷ []) p)) (All-append IsWord (words_written events p) (words_written (e ∷ []) p) (w p) (h p))

read_words : (q v p : ℕ) → All IsWord (words_written (ReadEvent (port q) v ∷ []) p)
read_words q v p = All-nil IsWord

write_words : (q v p : ℕ) → IsWord v → All IsWord (words_written (WriteEvent (port q) v ∷ []) p)
write_words q v p h = by (nat_eq q p)
  where
    by : (b : Bool) → All IsWord (if b then v ∷ [] else [])
    by true = All-cons IsWord v [] h (All-nil IsWord)
    by false = All-nil IsWord

-- a run goes on from words, or is over and has written words
abbrev OutcomeWords : Outcome → Type 0
OutcomeWords (Goes st) = StateWords st
OutcomeWords (Over e events) = WroteWords events

pub scalar_words : (st : State) (s v : ℕ) → StateWords st → IsWord v → StateWords (set_scalar st s v)
scalar_words st s v w h = record { scalars = λ u. if_word (nat_eq u s) v (st.scalars u) h (w.scalars u); arrays = w.arrays; left = w.left; written = w.written }

pub element_words : (st : State) (t i v : ℕ) → StateWords st → IsWord v → StateWords (set_element st t i v)
element_words st t i v w h = record { scalars = w.scalars; arrays = λ u j. by u j (nat_eq u t); left = w.left; written = w.written }
  where
    by : (u j : ℕ) (b : Bool) → IsWord ((if b then with (st.arrays t) i v else st.arrays u) j)
    by u j true = if_word (nat_eq j i) v (st.arrays t j) h (w.arrays t j)
    by u j false = w.arrays u j

-- a word that is read
pub read_word : (st : State) (p v : ℕ) (ws : List ℕ) → StateWords st → All IsWord (v ∷ ws) → StateWords (record st { left = with st.left p ws; events = st.events ++ ReadEvent (port p) v ∷ [] })
read_word st p v ws w k = record {
  scalars = w.scalars;
  arrays = w.arrays;
  left = λ q. left_words q (nat_eq q p);
  written = wrote_more st.events (ReadEvent (port p) v) w.written (read_words p v);
}
  where
    left_words : (q : ℕ) (b : Bool) → All IsWord (if b then ws else st.left q)
    left_words q true = All-tail IsWord v ws k
    left_words q false = w.left q

-- a word that is written
pub write_word : (st : State) (p v : ℕ) → StateWords st → IsWord v → StateWords (record st { events = st.events ++ WriteEvent (port p) v ∷ [] })
write_word st p v w h = record {
  scalars = w.scalars;
  arrays = w.arrays;
  left = w.left;
  written = wrote_more st.events (WriteEvent (port p) v) w.written (λ q. write_words p v q h);
}

take_words : (p : ℕ) (st : State) (go : ℕ → State → Outcome) → StateWords st → ((v : ℕ) (next : State) → IsWord v → StateWords next → OutcomeWords (go v next)) → OutcomeWords (take_word p (st.left p) st go)
take_words p st go w h = by (st.left p) (w.left p)
  where
    by : (ws : List ℕ) → All IsWord ws → OutcomeWords (take_word p ws st go)
    by [] k = w.written
    by (v ∷ ws) k = h v _ (All-head IsWord v ws k) (read_word st p v ws w k)

then_words : (o : Outcome) (go : State → Outcome) → OutcomeWords o → ((st : State) → StateWords st → OutcomeWords (go st)) → OutcomeWords (then_do o go)
then_words (Goes st) go w h = h st w
then_words (Over e events) go w h = w

zero_words : (n : ℕ) (a b : Outcome) → OutcomeWords a → OutcomeWords b → OutcomeWords (at_zero n a b)
zero_words zero a b h k = h
zero_words (suc n) a b h k = k

turns_words : (n : ℕ) (test : State → ℕ) (body : State → Outcome) (st : State) → ((s : State) → StateWords s → OutcomeWords (body s)) → StateWords st → OutcomeWords (turns n test body st)
turns_words zero test body st h w = zero_words (test st) (Goes st) (Over Cut st.events) w w.written
turns_words (suc n) test body st h w =
    zero_words (test st) (Goes st) (then_do (body st) (turns n test body)) w (then_words (body st) (turns n test body) (h st w) (λ s k. turns_words n test body s h k))

meaning_words : (g : Program) (a : Action) (n : ℕ) (st : State) → IsKnown g a → StateWords st → OutcomeWords (meaning g.lengths a n st)
meaning_words g Skip n st k w = w
meaning_words g (Then a b) n st k w = then_words (meaning g.lengths a n st) (meaning g.lengths b n) (meaning_words g a n st k.0 w) (λ s v. meaning_words g b n s k.1 v)
meaning_words g (Assign s e) n st k w = scalar_words st s (value_of g.lengths e st) w (value_word g e st k.1 w)
meaning_words g (Store t i e) n st k w = element_words st t (index_in g.lengths t (value_of g.lengths i st)) (value_of g.lengths e st) w (value_word g e st k.2 w)
meaning_words g (Read s p) n st k w = take_words p st (λ v next. Goes (set_scalar next s v)) w (λ v next h j. scalar_words next s v j h)
meaning_words g (ReadInto t i p) n st k w =
    take_words p st (λ v next. Goes (set_element next t (index_in g.lengths t (value_of g.lengths i st)) v)) w (λ v next h j. element_words next t (index_in g.lengths t (value_of g.lengths i st)) v j h)
meaning_words g (Write p e) n st k w = write_word st p (value_of g.lengths e st) w (value_word g e st k.1 w)
meaning_words g (Choose e a b) n st k w = zero_words (value_of g.lengths e st) (meaning g.lengths b n st) (meaning g.lengths a n st) (meaning_words g b n st k.2 w) (meaning_words g a n st k.1 w)
meaning_words g (Repeat e a) n st k w = turns_words n (value_of g.lengths e) (meaning g.lengths a n) st (λ s v. meaning_words g a n s k.1 v) w
meaning_words g Return n st k w = w.written

traced_words : (o : Outcome) → OutcomeWords o → WroteWords (trace_of o).events
traced_words (Goes st) w = w.written
traced_words (Over e events) w = w

pub start_words : (ins : Inputs) → AreWords ins → StateWords (start ins)
start_words ins words = record { scalars = λ s. omega arith; arrays = λ t i. omega arith; left = words; written = λ q. All-nil IsWord }

-- a program with known names writes words
pub trace_words : (g : Program) → IsSound g → WritesWords (trace g)
trace_words g sound ins words n p = traced_words (meaning g.lengths g.body n (start ins)) (meaning_words g g.body n (start ins) sound.known (start_words ins words)) p
