-- The blocks of a program.
use Rattle.std.specs.Prelude.{ℕ, ◌+◌, List, [], ◌∷◌, ◌++◌, length}
use Rattle.fsm_core.specs.declared.micro.MicroOp.{MicroOp}
use Rattle.fsm_core.specs.declared.micro.MicroOp.TheVariants as op
use Rattle.fsm_core.specs.declared.micro.Micro.{Micro}
use Rattle.fsm_core.specs.declared.micro.Next.{Next}
use Rattle.fsm_core.specs.declared.micro.Next.TheVariants.{Goto, Branch, End}
use Rattle.pld_ast.specs.Program.{Sign, Signed, Unsigned, Operation1, Keep, Negate, Flip, IsZero, Operation2, EitherOf, BothOf, BitOr, BitXor, BitAnd, Equal, Unequal, Less, AtMost, More, AtLeast, ShiftLeft, ShiftRight, Plus, Minus, Times, Quotient, Remainder, Value, Number, Scalar, Element, Op1, Op2, Action, Skip, Then, Assign, Store, Read, ReadInto, Write, Choose, Repeat, Return, Program}

-- a micro that names a target and two sources, in this order
abbrev pub by_three : MicroOp → ℕ → ℕ → ℕ → Micro
by_three o t a b = record { op = o; unit = 0; t = t; a = a; b = b; value = 0 }

abbrev pub by_two : MicroOp → ℕ → ℕ → Micro
by_two o t a = record { op = o; unit = 0; t = t; a = a; b = 0; value = 0 }

abbrev pub set_micro : ℕ → ℕ → Micro
set_micro t v = record { op = op.Set; unit = 0; t = t; a = 0; b = 0; value = v }

abbrev pub load_micro : ℕ → ℕ → ℕ → Micro
load_micro t u a = record { op = op.Load; unit = u; t = t; a = a; b = 0; value = 0 }

abbrev pub store_micro : ℕ → ℕ → ℕ → Micro
store_micro u a b = record { op = op.Store; unit = u; t = 0; a = a; b = b; value = 0 }

abbrev pub read_micro : ℕ → ℕ → Micro
read_micro t p = record { op = op.Read; unit = p; t = t; a = 0; b = 0; value = 0 }

abbrev pub write_micro : ℕ → ℕ → Micro
write_micro p a = record { op = op.Write; unit = p; t = 0; a = a; b = 0; value = 0 }

-- a prefix plus and a cast take no micro: their register is that of their operand
abbrev pub op1_micros : Operation1 → ℕ → ℕ → List Micro
op1_micros Keep t a = []
op1_micros Negate t a = by_two op.Neg t a ∷ []
op1_micros Flip t a = by_two op.Not t a ∷ []
op1_micros IsZero t a = by_two op.Lnot t a ∷ []

-- the register of an operation on a register, where t is the next temporary
abbrev pub op1_reg : Operation1 → ℕ → ℕ → ℕ
op1_reg Keep t a = a
op1_reg Negate t a = t
op1_reg Flip t a = t
op1_reg IsZero t a = t

-- how many temporaries it takes
abbrev pub op1_temps : Operation1 → ℕ
op1_temps Keep = 0
op1_temps Negate = 1
op1_temps Flip = 1
op1_temps IsZero = 1

-- the operation for a sign
abbrev pub by_sign : Sign → MicroOp → MicroOp → MicroOp
by_sign Signed with_sign without = with_sign
by_sign Unsigned with_sign without = without

-- more and at least have their operands exchanged
abbrev pub op2_micro : Operation2 → ℕ → ℕ → ℕ → Micro
op2_micro EitherOf t a b = by_three op.Lor t a b
op2_micro BothOf t a b = by_three op.Land t a b
op2_micro BitOr t a b = by_three op.Or t a b
op2_micro BitXor t a b = by_three op.Xor t a b
op2_micro BitAnd t a b = by_three op.And t a b
op2_micro Equal t a b = by_three op.Eq t a b
op2_micro Unequal t a b = by_three op.Ne t a b
op2_micro (Less g) t a b = by_three (by_sign g op.Lts op.Ltu) t a b
op2_micro (AtMost g) t a b = by_three (by_sign g op.Les op.Leu) t a b
op2_micro (More g) t a b = by_three (by_sign g op.Lts op.Ltu) t b a
op2_micro (AtLeast g) t a b = by_three (by_sign g op.Les op.Leu) t b a
op2_micro ShiftLeft t a b = by_three op.Shl t a b
op2_micro (ShiftRight g) t a b = by_three (by_sign g op.Sar op.Shr) t a b
op2_micro Plus t a b = by_three op.Add t a b
op2_micro Minus t a b = by_three op.Sub t a b
op2_micro Times t a b = by_three op.Mul t a b
op2_micro (Quotient g) t a b = by_three (by_sign g op.Div op.Divu) t a b
op2_micro (Remainder g) t a b = by_three (by_sign g op.Rem op.Remu) t a b

-- how many temporaries a value takes
abbrev pub temps_in : Value → ℕ
temps_in (Number v) = 1
temps_in (Scalar s) = 0
temps_in (Element u e) = temps_in e + 1
temps_in (Op1 o a) = temps_in a + op1_temps o
temps_in (Op2 o a b) = temps_in a + temps_in b + 1

-- the register of a value, where t is the next temporary
abbrev pub reg_of : Value → ℕ → ℕ
reg_of (Number v) t = t
reg_of (Scalar s) t = s
reg_of (Element u e) t = t + temps_in e
reg_of (Op1 o a) t = op1_reg o (t + temps_in a) (reg_of a t)
reg_of (Op2 o a b) t = t + temps_in a + temps_in b

-- the micros that leave a value in its register
abbrev pub value_micros : Value → ℕ → List Micro
value_micros (Number v) t = set_micro t v ∷ []
value_micros (Scalar s) t = []
value_micros (Element u e) t = value_micros e t ++ load_micro (t + temps_in e) u (reg_of e t) ∷ []
value_micros (Op1 o a) t = value_micros a t ++ op1_micros o (t + temps_in a) (reg_of a t)
value_micros (Op2 o a b) t =
    value_micros a t ++ (value_micros b (t + temps_in a) ++ op2_micro o (t + temps_in a + temps_in b) (reg_of a t) (reg_of b (t + temps_in a)) ∷ [])

-- a block: its micros, and where it goes on, by the blocks' numbers
pub record Piece : Type 0 where
  pub micros : List Micro
  pub next : Next

-- what an action makes of the current block, whose number is k: blocks that are ended, the first of which
-- is k, and then the current block's micros so far; and the next temporary
pub record Made : Type 0 where
  pub ended : List Piece
  pub current : List Micro
  pub temps : ℕ

abbrev pub piece : List Micro → Next → Piece
piece ms nx = record { micros = ms; next = nx }

-- the current block goes on
abbrev pub straight : List Micro → ℕ → Made
straight ms t = record { ended = []; current = ms; temps = t }

abbrev pub followed : Made → Made → Made
followed p q = record { ended = p.ended ++ q.ended; current = q.current; temps = q.temps }

abbrev pub then_make : Made → ℕ → (List Micro → ℕ → ℕ → Made) → Made
then_make p k make = followed p (make p.current (k + length p.ended) p.temps)

-- c ends with a branch to a, whose number is k + 1, and b; both end at z
abbrev pub both_ways : List Micro → ℕ → ℕ → Made → Made → Made
both_ways c r k p q =
    let b = k + 1 + length p.ended + 1 in
    let z = b + length q.ended + 1 in
    record {
      ended = piece c (Branch r (k + 1) b) ∷ (p.ended ++ piece p.current (Goto z) ∷ (q.ended ++ piece q.current (Goto z) ∷ []));
      current = [];
      temps = q.temps;
    }

abbrev pub choose_make : List Micro → ℕ → ℕ → Made → (ℕ → ℕ → Made) → Made
choose_make c r k p make = both_ways c r k p (make (k + 1 + length p.ended + 1) p.temps)

-- c goes to h, whose number is k + 1; h ends with a branch to the body and z; the body goes to h
abbrev pub repeat_make : List Micro → List Micro → ℕ → ℕ → Made → Made
repeat_make c h r k p =
    let z = k + 1 + 1 + length p.ended + 1 in
    record {
      ended = piece c (Goto (k + 1)) ∷ piece h (Branch r (k + 1 + 1) z) ∷ (p.ended ++ piece p.current (Goto (k + 1)) ∷ []);
      current = [];
      temps = p.temps;
    }

-- from the current block's micros so far, its number, and the next temporary
abbrev pub emit : Action → List Micro → ℕ → ℕ → Made
emit Skip c k t = straight c t
emit (Then a b) c k t = then_make (emit a c k t) k (emit b)
emit (Assign s e) c k t = straight (c ++ (value_micros e t ++ by_two op.Move s (reg_of e t) ∷ [])) (t + temps_in e)
emit (Store u i e) c k t =
    straight (c ++ (value_micros i t ++ (value_micros e (t + temps_in i) ++ store_micro u (reg_of i t) (reg_of e (t + temps_in i)) ∷ []))) (t + temps_in i + temps_in e)
emit (Read s p) c k t = straight (c ++ read_micro s p ∷ []) t
emit (ReadInto u i p) c k t =
    straight (c ++ (value_micros i t ++ (read_micro (t + temps_in i) p ∷ store_micro u (reg_of i t) (t + temps_in i) ∷ []))) (t + temps_in i + 1)
emit (Write p e) c k t = straight (c ++ (value_micros e t ++ write_micro p (reg_of e t) ∷ [])) (t + temps_in e)
emit (Choose e a b) c k t =
    choose_make (c ++ value_micros e t) (reg_of e t) k (emit a [] (k + 1) (t + temps_in e)) (emit b [])
emit (Repeat e a) c k t = repeat_make c (value_micros e t) (reg_of e t) k (emit a [] (k + 1 + 1) (t + temps_in e))
emit Return c k t = record { ended = piece c End ∷ []; current = []; temps = t }

abbrev pub whole : Program → Made
whole g = emit g.body [] 0 64

-- the blocks of a program, in order of their numbers
abbrev pub blocks_of : Program → List Piece
blocks_of g = (whole g).ended ++ piece (whole g).current End ∷ []
