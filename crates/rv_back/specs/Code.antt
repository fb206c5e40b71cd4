-- The softcore's code for a program. Values are computed in x10, with x11 beside it. x8 has the place of
-- the RAM, x9 that of the ports, and x2 that of the next word to be pushed.
use Rattle.std.specs.Prelude.{ℕ, zero, suc, ◌+◌, ◌-◌, ◌*◌, ◌/◌, ◌%◌, ◌^◌, ℤ, pos, negsuc, List, [], ◌∷◌, ◌++◌, Option, Some, None, length, sum, take, slice_index, Bool, true, false, nat_lt, if◌then◌else◌}
use Rattle.rv_isa.specs.declared.instr.Instr.{Instr}
use Rattle.rv_isa.specs.declared.instr.Instr.TheVariants.{Lui, Jal, Bne, Lw, Sw, Addi, Sltiu, Xori, Slli, Add, Sub, Sll, Slt, Sltu, Xor, Srl, Sra, Or, And, Mul, Div, Divu, Rem, Remu, Ebreak}
use Rattle.pld_ast.specs.Program.{Sign, Signed, Unsigned, Operation1, Keep, Negate, Flip, IsZero, Operation2, EitherOf, BothOf, BitOr, BitXor, BitAnd, Equal, Unequal, Less, AtMost, More, AtLeast, ShiftLeft, ShiftRight, Plus, Minus, Times, Quotient, Remainder, Value, Number, Scalar, Element, Op1, Op2, Action, Skip, Then, Assign, Store, Read, ReadInto, Write, Choose, Repeat, Return, Program}

-- 0 - n
abbrev pub neg_of : ℕ → ℤ
neg_of zero = pos 0
neg_of (suc n) = negsuc n

-- the signed view of the low 12 bits
abbrev pub low_of : ℕ → ℤ
low_of v = if nat_lt (v % 4096) 2048 then pos (v % 4096) else neg_of (4096 - v % 4096)

-- the upper 20 bits of v less that
abbrev pub high_of : ℕ → ℕ
high_of v = ((v + 2048) / 4096) % 2 ^ 20

-- a number into a register
abbrev pub const : ℕ → ℕ → List Instr
const r v = Lui r (high_of v) ∷ Addi r r (low_of v) ∷ []

-- x10 onto the pushed words
abbrev pub push : List Instr
push = Sw 2 10 (pos 0) ∷ Addi 2 2 (pos 4) ∷ []

-- the last of the pushed words into x11
abbrev pub pop : List Instr
pop = Addi 2 2 (negsuc 3) ∷ Lw 11 2 (pos 0) ∷ []

-- the scalars below 20 stand in the registers from x12 on, the others in the RAM, each at its own number
abbrev pub register_at : ℕ → Option ℕ
register_at s = if nat_lt s 20 then Some (12 + s) else None

-- a scalar, which stands there, into x10
abbrev pub get_from : Option ℕ → ℕ → List Instr
get_from (Some r) s = Addi 10 r (pos 0) ∷ []
get_from None s = Lw 10 8 (pos (4 * s)) ∷ []

-- x10 into a scalar, which stands there
abbrev pub set_to : Option ℕ → ℕ → List Instr
set_to (Some r) s = Addi r 10 (pos 0) ∷ []
set_to None s = Sw 8 10 (pos (4 * s)) ∷ []

-- a word of an in-port into a scalar, which stands there
abbrev pub read_from : Option ℕ → ℕ → ℕ → List Instr
read_from (Some r) s q = Lw r 9 (pos (4 * q)) ∷ []
read_from None s q = Lw 10 9 (pos (4 * q)) ∷ Sw 8 10 (pos (4 * s)) ∷ []

-- a scalar into x10
abbrev pub get_scalar : ℕ → List Instr
get_scalar s = get_from (register_at s) s

-- x10 into a scalar
abbrev pub set_scalar : ℕ → List Instr
set_scalar s = set_to (register_at s) s

-- a word of an in-port into a scalar
abbrev pub read_scalar : ℕ → ℕ → List Instr
read_scalar s q = read_from (register_at s) s q

-- the word of the RAM at which an array begins: after 64 scalars and the arrays before it
abbrev pub base_of : List ℕ → ℕ → ℕ
base_of lengths t = 64 + sum (take t lengths)

-- from an index in x10 to the address of that element; an index counts modulo the array's length
abbrev pub address : List ℕ → ℕ → List Instr
address lengths t =
    const 11 (slice_index lengths t) ++ (Remu 10 10 11 ∷ Slli 10 10 2 ∷ (const 11 (0x20000 + 4 * base_of lengths t) ++ Add 10 10 11 ∷ []))

-- x10 becomes the operation of it
abbrev pub op1_code : Operation1 → List Instr
op1_code Keep = []
op1_code Negate = Sub 10 0 10 ∷ []
op1_code Flip = Xori 10 10 (negsuc 0) ∷ []
op1_code IsZero = Sltiu 10 10 (pos 1) ∷ []

-- x10 becomes 1 where the one register is below the other, and else 0
abbrev pub less_by : Sign → ℕ → ℕ → Instr
less_by Signed a b = Slt 10 a b
less_by Unsigned a b = Sltu 10 a b

-- x11 shifted to the right by x10
abbrev pub shift_by : Sign → Instr
shift_by Signed = Sra 10 11 10
shift_by Unsigned = Srl 10 11 10

-- x11 divided by x10
abbrev pub quotient_by : Sign → Instr
quotient_by Signed = Div 10 11 10
quotient_by Unsigned = Divu 10 11 10

-- what is left of x11 where it is divided by x10
abbrev pub remainder_by : Sign → Instr
remainder_by Signed = Rem 10 11 10
remainder_by Unsigned = Remu 10 11 10

-- x10 becomes the operation of x11 and x10
abbrev pub op2_code : Operation2 → List Instr
op2_code EitherOf = Or 10 11 10 ∷ Sltu 10 0 10 ∷ []
op2_code BothOf = Sltu 11 0 11 ∷ Sltu 10 0 10 ∷ And 10 11 10 ∷ []
op2_code BitOr = Or 10 11 10 ∷ []
op2_code BitXor = Xor 10 11 10 ∷ []
op2_code BitAnd = And 10 11 10 ∷ []
op2_code Equal = Sub 10 11 10 ∷ Sltiu 10 10 (pos 1) ∷ []
op2_code Unequal = Sub 10 11 10 ∷ Sltu 10 0 10 ∷ []
op2_code (Less g) = less_by g 11 10 ∷ []
op2_code (AtMost g) = less_by g 10 11 ∷ Xori 10 10 (pos 1) ∷ []
op2_code (More g) = less_by g 10 11 ∷ []
op2_code (AtLeast g) = less_by g 11 10 ∷ Xori 10 10 (pos 1) ∷ []
op2_code ShiftLeft = Sll 10 11 10 ∷ []
op2_code (ShiftRight g) = shift_by g ∷ []
op2_code Plus = Add 10 11 10 ∷ []
op2_code Minus = Sub 10 11 10 ∷ []
op2_code Times = Mul 10 11 10 ∷ []
op2_code (Quotient g) = quotient_by g ∷ []
op2_code (Remainder g) = remainder_by g ∷ []

-- a literal or a scalar: its code leaves x11 as it is
abbrev pub is_short : Value → Bool
is_short (Number v) = true
is_short (Scalar s) = true
is_short (Element t e) = false
is_short (Op1 o a) = false
is_short (Op2 o a b) = false

-- the left operand goes to x11 before a short right operand, and is pushed before any other
abbrev pub set_aside : Bool → List Instr
set_aside true = Addi 11 10 (pos 0) ∷ []
set_aside false = push

-- the left operand comes to x11 after the right one
abbrev pub bring_back : Bool → List Instr
bring_back true = []
bring_back false = pop

-- leaves the value in x10
abbrev pub value_code : List ℕ → Value → List Instr
value_code l (Number v) = const 10 v
value_code l (Scalar s) = get_scalar s
value_code l (Element t e) = value_code l e ++ (address l t ++ Lw 10 10 (pos 0) ∷ [])
value_code l (Op1 o a) = value_code l a ++ op1_code o
value_code l (Op2 o a b) = value_code l a ++ (set_aside (is_short b) ++ (value_code l b ++ (bring_back (is_short b) ++ op2_code o)))

-- past the next jump where x10 isn't 0, and else that jump, over n instructions more
abbrev pub unless : ℕ → List Instr
unless n = Bne 10 0 (pos 8) ∷ Jal 0 (pos (4 * (n + 1))) ∷ []

-- the one code where the value isn't 0, and else the other
abbrev pub choose_code : List Instr → List Instr → List Instr → List Instr
choose_code e a b = e ++ (unless (length a + 1) ++ (a ++ Jal 0 (pos (4 * (length b + 1))) ∷ b))

-- the code, again and again while the value isn't 0
abbrev pub repeat_code : List Instr → List Instr → List Instr
repeat_code e a = e ++ (unless (length a + 1) ++ (a ++ Jal 0 (neg_of (4 * (length e + 2 + length a))) ∷ []))

-- a word of an in-port to the address in x10
abbrev pub read_at : ℕ → List Instr
read_at q = Addi 11 10 (pos 0) ∷ Lw 10 9 (pos (4 * q)) ∷ Sw 11 10 (pos 0) ∷ []

-- an action's code
abbrev pub action_code : List ℕ → Action → List Instr
action_code l Skip = []
action_code l (Then a b) = action_code l a ++ action_code l b
action_code l (Assign s e) = value_code l e ++ set_scalar s
action_code l (Store t i e) =
    value_code l i ++ (address l t ++ (push ++ (value_code l e ++ (pop ++ Sw 11 10 (pos 0) ∷ []))))
action_code l (Read s q) = read_scalar s q
action_code l (ReadInto t i q) = value_code l i ++ (address l t ++ read_at q)
action_code l (Write q e) = value_code l e ++ Sw 9 10 (pos (256 + 4 * q)) ∷ []
action_code l (Choose e a b) = choose_code (value_code l e) (action_code l a) (action_code l b)
action_code l (Repeat e a) = repeat_code (value_code l e) (action_code l a)
action_code l Return = Ebreak ∷ []

-- the places of the RAM, of the ports and of the pushed words
abbrev pub prologue : List Instr
prologue = Lui 8 0x20 ∷ Lui 9 0x80000 ∷ Lui 2 0x28 ∷ Addi 2 2 (pos 256) ∷ []

-- a program's code
abbrev pub soft_code : Program → List Instr
soft_code g = prologue ++ (action_code g.lengths g.body ++ Ebreak ∷ [])
