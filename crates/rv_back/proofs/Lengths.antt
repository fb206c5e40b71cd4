-- How long the code is.
use Rattle.std.proofs.Common.{ℕ, Bool, true, false, ◌+◌, ◌*◌, ◌≤◌, List, [], ◌∷◌, ◌++◌, length, arith, length-append}
use Rattle.rv_isa.specs.declared.instr.Instr.{Instr}
use Rattle.rv_isa.specs.declared.instr.Instr.TheVariants.{Jal, Lw, Sw, Ebreak}
use Rattle.std.specs.Prelude.{pos, Option, Some, None}
use Rattle.pld_ast.specs.Program.{Operation1, Keep, Negate, Flip, IsZero, Operation2, EitherOf, BothOf, BitOr, BitXor, BitAnd, Equal, Unequal, Less, AtMost, More, AtLeast, ShiftLeft, ShiftRight, Plus, Minus, Times, Quotient, Remainder, Value, Number, Scalar, Element, Op1, Op2, Action, Skip, Then, Assign, Store, Read, ReadInto, Write, Choose, Repeat, Return}
use Rattle.rv_back.specs.Code.{neg_of, push, pop, register_at, get_from, set_to, read_from, set_scalar, read_at, address, op1_code, op2_code, is_short, set_aside, bring_back, value_code, unless, action_code, prologue}
use Rattle.pld_ast.specs.Nodes.{value_nodes, action_nodes}

op1_short : (o : Operation1) → length (op1_code o) ≤ 1
op1_short Keep = omega arith
op1_short Negate = omega arith
op1_short Flip = omega arith
op1_short IsZero = omega arith

op2_short : (o : Operation2) → length (op2_code o) ≤ 3
op2_short EitherOf = omega arith
op2_short BothOf = omega arith
op2_short BitOr = omega arith
op2_short BitXor = omega arith
op2_short BitAnd = omega arith
op2_short Equal = omega arith
op2_short Unequal = omega arith
op2_short (Less g) = omega arith
op2_short (AtMost g) = omega arith
op2_short (More g) = omega arith
op2_short (AtLeast g) = omega arith
op2_short ShiftLeft = omega arith
op2_short (ShiftRight g) = omega arith
op2_short Plus = omega arith
op2_short Minus = omega arith
op2_short Times = omega arith
op2_short (Quotient g) = omega arith
op2_short (Remainder g) = omega arith

get_short : (r : Option ℕ) (s : ℕ) → length (get_from r s) ≤ 1
get_short (Some r) s = omega arith
get_short None s = omega arith

set_short : (r : Option ℕ) (s : ℕ) → length (set_to r s) ≤ 1
set_short (Some r) s = omega arith
set_short None s = omega arith

read_short : (r : Option ℕ) (s q : ℕ) → length (read_from r s q) ≤ 2
read_short (Some r) s q = omega arith
read_short None s q = omega arith

aside_short : (t : Bool) → length (set_aside t) ≤ 2
aside_short true = omega arith
aside_short false = omega arith

back_short : (t : Bool) → length (bring_back t) ≤ 2
back_short true = omega arith
back_short false = omega arith

both_short : (a x b y o : List Instr) (m n : ℕ) → length a ≤ 8 * m → length x ≤ 2 → length b ≤ 8 * n → length y ≤ 2 → length o ≤ 3 → length (a ++ (x ++ (b ++ (y ++ o)))) ≤ 8 * (1 + m + n)
both_short a x b y o m n ha hx hb hy ho = omega (arith, length-append a (x ++ (b ++ (y ++ o))), length-append x (b ++ (y ++ o)), length-append b (y ++ o), length-append y o)

pub value_short : (l : List ℕ) (e : Value) → length (value_code l e) ≤ 8 * value_nodes e
value_short l (Number v) = omega arith
value_short l (Scalar s) = omega (arith, get_short (register_at s) s)
value_short l (Element t e) = omega (arith, value_short l e, length-append (value_code l e) (address l t ++ Lw 10 10 (pos 0) ∷ []))
value_short l (Op1 o a) = omega (arith, value_short l a, op1_short o, length-append (value_code l a) (op1_code o))
value_short l (Op2 o a b) = both_short _ _ _ _ _ (value_nodes a) (value_nodes b) (value_short l a) (aside_short (is_short b)) (value_short l b) (back_short (is_short b)) (op2_short o)

pub action_short : (l : List ℕ) (a : Action) → length (action_code l a) ≤ 12 * action_nodes a
action_short l Skip = omega arith
action_short l (Then a b) = omega (arith, action_short l a, action_short l b, length-append (action_code l a) (action_code l b))
action_short l (Assign s e) = omega (arith, value_short l e, set_short (register_at s) s, length-append (value_code l e) (set_scalar s))
action_short l (Store t i e) =
    omega (arith, value_short l i, value_short l e, length-append (value_code l i) (address l t ++ (push ++ (value_code l e ++ (pop ++ Sw 11 10 (pos 0) ∷ [])))), length-append (value_code l e) (pop ++ Sw 11 10 (pos 0) ∷ []))
action_short l (Read s q) = omega (arith, read_short (register_at s) s q)
action_short l (ReadInto t i q) =
    omega (arith, value_short l i, length-append (value_code l i) (address l t ++ read_at q))
action_short l (Write q e) = omega (arith, value_short l e, length-append (value_code l e) (Sw 9 10 (pos (256 + 4 * q)) ∷ []))
action_short l (Choose e a b) =
    let ce = value_code l e in
    let ca = action_code l a in
    let cb = action_code l b in
    omega (arith, value_short l e, action_short l a, action_short l b, length-append ce (unless (length ca + 1) ++ (ca ++ Jal 0 (pos (4 * (length cb + 1))) ∷ cb)), length-append ca (Jal 0 (pos (4 * (length cb + 1))) ∷ cb))
action_short l (Repeat e a) =
    let ce = value_code l e in
    let ca = action_code l a in
    omega (arith, value_short l e, action_short l a, length-append ce (unless (length ca + 1) ++ (ca ++ Jal 0 (neg_of (4 * (length ce + 2 + length ca))) ∷ [])), length-append ca (Jal 0 (neg_of (4 * (length ce + 2 + length ca))) ∷ []))
action_short l Return = omega arith

-- the code of a program with few nodes
pub program_short : (l : List ℕ) (body : Action) (n : ℕ) → action_nodes body ≤ n → length (prologue ++ (action_code l body ++ Ebreak ∷ [])) ≤ 12 * n + 5
program_short l body n h = omega (arith, action_short l body, length-append (action_code l body) (Ebreak ∷ []))
