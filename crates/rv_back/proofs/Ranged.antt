-- Each instruction of a sound program's code is in its ranges.
use Rattle.std.proofs.Common.{◌≡◌, ℕ, zero, suc, ◌+◌, ◌-◌, ◌*◌, ◌%◌, ◌<◌, ◌≤◌, pos, List, [], ◌∷◌, ◌++◌, length, Bool, true, false, Option, Some, None, refl, arith}
use Rattle.std.proofs.lemmas.Bool.{ltb-true, ltb-false}
use Rattle.std.proofs.lemmas.Int.{ints}
use Rattle.std.specs.Prelude.{nat_lt, slice_index, if◌then◌else◌}
use Rattle.std.specs.List.{AllByRecursion}
use Rattle.pld_ast.specs.Program.{Sign, Signed, Unsigned, Operation1, Keep, Negate, Flip, IsZero, Operation2, EitherOf, BothOf, BitOr, BitXor, BitAnd, Equal, Unequal, Less, AtMost, More, AtLeast, ShiftLeft, ShiftRight, Plus, Minus, Times, Quotient, Remainder, Value, Number, Scalar, Element, Op1, Op2, Action, Skip, Then, Assign, Store, Read, ReadInto, Write, Choose, Repeat, Return, Program}
use Rattle.pld_ast.specs.Nodes.{action_nodes}
use Rattle.pld_ast.specs.Sound.{IsKnownValue, IsKnown, IsSound}
use Rattle.rv_isa.specs.Ranges.{IsReg, IsImm, IsNear, IsFar}
use Rattle.rv_isa.specs.Spelling.{IsInstr}
use Rattle.rv_isa.specs.declared.instr.Instr.{Instr}
use Rattle.rv_isa.specs.declared.instr.Instr.TheVariants.{Lw, Sw, Add, Slli, Remu, Ebreak}
use Rattle.rv_back.specs.Code.{neg_of, low_of, const, push, pop, register_at, get_from, set_to, read_from, set_scalar, base_of, address, op1_code, less_by, shift_by, quotient_by, remainder_by, op2_code, is_short, set_aside, bring_back, value_code, unless, choose_code, repeat_code, read_at, action_code, prologue, soft_code}
use Rattle.rv_back.proofs.Lengths.{value_short, action_short}

abbrev pub AreIn : List Instr → Type 0
AreIn code = AllByRecursion IsInstr code

joined : (xs ys : List Instr) → AreIn xs → AreIn ys → AreIn (xs ++ ys)
joined [] ys h k = k
joined (x ∷ xs) ys h k = (h.0, joined xs ys h.1 k)

-- ---- the numbers of instructions

past : (n : ℕ) → n ≤ 2047 → IsImm (pos n)
past n h = record { low = omega (arith, ints); high = omega (arith, ints) }

before : (n : ℕ) → n ≤ 2048 → IsImm (neg_of n)
before zero h = record { low = omega (arith, ints); high = omega (arith, ints) }
before (suc n) h = record { low = omega (arith, ints); high = omega (arith, ints) }

low_in : (v : ℕ) → IsImm (low_of v)
low_in v = by_test (nat_lt (v % 4096) 2048) refl
  where
    by_test : (t : Bool) → nat_lt (v % 4096) 2048 ≡ t → IsImm (if t then pos (v % 4096) else neg_of (4096 - v % 4096))
    by_test true e = let lt : v % 4096 < 2048 = ltb-true (v % 4096) 2048 e in past (v % 4096) (omega arith)
    by_test false e = before (4096 - v % 4096) (let le : 2048 ≤ v % 4096 = ltb-false (v % 4096) 2048 e in omega arith)

jump_on : (n : ℕ) → n ≤ 12005 → IsFar (pos (4 * n))
jump_on n h = record { low = omega (arith, ints); high = omega (arith, ints); even = omega arith }

jump_back : (n : ℕ) → n ≤ 48020 → n % 2 ≡ 0 → IsFar (neg_of n)
jump_back zero h e = record { low = omega (arith, ints); high = omega (arith, ints); even = refl }
jump_back (suc n) h e = record { low = omega (arith, ints); high = omega (arith, ints); even = omega arith }

skip_one : IsNear (pos 8)
skip_one = record { low = omega (arith, ints); high = omega (arith, ints); even = refl }

r0 : IsReg 0
r0 = omega arith

r2 : IsReg 2
r2 = omega arith

r8 : IsReg 8
r8 = omega arith

r9 : IsReg 9
r9 = omega arith

r10 : IsReg 10
r10 = omega arith

r11 : IsReg 11
r11 = omega arith

-- ---- the pieces of the templates

const_in : (r v : ℕ) → IsReg r → AreIn (const r v)
const_in r v h = ((h, omega arith), ((h, h, low_in v), tt))

push_in : AreIn push
push_in = ((r2, r10, past 0 (omega arith)), ((r2, r2, past 4 (omega arith)), tt))

pop_in : AreIn pop
pop_in = ((r2, r2, before 4 (omega arith)), ((r11, r2, past 0 (omega arith)), tt))

-- the register of a scalar is one
abbrev IsPlace : Option ℕ → Type 0
IsPlace (Some r) = IsReg r
IsPlace None = Unit {0}

place_in : (s : ℕ) → IsPlace (register_at s)
place_in s = by_test (nat_lt s 20) refl
  where
    by_test : (t : Bool) → nat_lt s 20 ≡ t → IsPlace (if t then Some (12 + s) else None)
    by_test true e = let lt : s < 20 = ltb-true s 20 e in omega arith
    by_test false e = tt

get_in : (o : Option ℕ) (s : ℕ) → IsPlace o → s ≤ 64 → AreIn (get_from o s)
get_in (Some r) s h k = ((r10, h, past 0 (omega arith)), tt)
get_in None s h k = ((r10, r8, past (4 * s) (omega arith)), tt)

set_in : (o : Option ℕ) (s : ℕ) → IsPlace o → s ≤ 64 → AreIn (set_to o s)
set_in (Some r) s h k = ((h, r10, past 0 (omega arith)), tt)
set_in None s h k = ((r8, r10, past (4 * s) (omega arith)), tt)

read_in : (o : Option ℕ) (s q : ℕ) → IsPlace o → s ≤ 64 → q ≤ 8 → AreIn (read_from o s q)
read_in (Some r) s q h k j = ((h, r9, past (4 * q) (omega arith)), tt)
read_in None s q h k j = ((r10, r9, past (4 * q) (omega arith)), ((r8, r10, past (4 * s) (omega arith)), tt))

address_in : (l : List ℕ) (t : ℕ) → AreIn (address l t)
address_in l t =
    let base = 0x20000 + 4 * base_of l t in
    let last : AreIn (const 11 base ++ Add 10 10 11 ∷ []) = joined (const 11 base) (Add 10 10 11 ∷ []) (const_in 11 base r11) ((r10, r10, r11), tt) in
    let rest : AreIn (Remu 10 10 11 ∷ Slli 10 10 2 ∷ (const 11 base ++ Add 10 10 11 ∷ [])) = ((r10, r10, r11), ((r10, r10, r2), last)) in
    joined (const 11 (slice_index l t)) (Remu 10 10 11 ∷ Slli 10 10 2 ∷ (const 11 base ++ Add 10 10 11 ∷ [])) (const_in 11 (slice_index l t) r11) rest

read_at_in : (q : ℕ) → q ≤ 8 → AreIn (read_at q)
read_at_in q h = ((r11, r10, past 0 (omega arith)), ((r10, r9, past (4 * q) (omega arith)), ((r11, r10, past 0 (omega arith)), tt)))

op1_in : (o : Operation1) → AreIn (op1_code o)
op1_in Keep = tt
op1_in Negate = ((r10, r0, r10), tt)
op1_in Flip = ((r10, r10, before 1 (omega arith)), tt)
op1_in IsZero = ((r10, r10, past 1 (omega arith)), tt)

less_in : (g : Sign) (a b : ℕ) → IsReg a → IsReg b → IsInstr (less_by g a b)
less_in Signed a b h k = (r10, h, k)
less_in Unsigned a b h k = (r10, h, k)

shift_in : (g : Sign) → IsInstr (shift_by g)
shift_in Signed = (r10, r11, r10)
shift_in Unsigned = (r10, r11, r10)

quotient_in : (g : Sign) → IsInstr (quotient_by g)
quotient_in Signed = (r10, r11, r10)
quotient_in Unsigned = (r10, r11, r10)

remainder_in : (g : Sign) → IsInstr (remainder_by g)
remainder_in Signed = (r10, r11, r10)
remainder_in Unsigned = (r10, r11, r10)

op2_in : (o : Operation2) → AreIn (op2_code o)
op2_in EitherOf = ((r10, r11, r10), ((r10, r0, r10), tt))
op2_in BothOf = ((r11, r0, r11), ((r10, r0, r10), ((r10, r11, r10), tt)))
op2_in BitOr = ((r10, r11, r10), tt)
op2_in BitXor = ((r10, r11, r10), tt)
op2_in BitAnd = ((r10, r11, r10), tt)
op2_in Equal = ((r10, r11, r10), ((r10, r10, past 1 (omega arith)), tt))
op2_in Unequal = ((r10, r11, r10), ((r10, r0, r10), tt))
op2_in (Less g) = (less_in g 11 10 r11 r10, tt)
op2_in (AtMost g) = (less_in g 10 11 r10 r11, ((r10, r10, past 1 (omega arith)), tt))
op2_in (More g) = (less_in g 10 11 r10 r11, tt)
op2_in (AtLeast g) = (less_in g 11 10 r11 r10, ((r10, r10, past 1 (omega arith)), tt))
op2_in ShiftLeft = ((r10, r11, r10), tt)
op2_in (ShiftRight g) = (shift_in g, tt)
op2_in Plus = ((r10, r11, r10), tt)
op2_in Minus = ((r10, r11, r10), tt)
op2_in Times = ((r10, r11, r10), tt)
op2_in (Quotient g) = (quotient_in g, tt)
op2_in (Remainder g) = (remainder_in g, tt)

aside_in : (t : Bool) → AreIn (set_aside t)
aside_in true = ((r11, r10, past 0 (omega arith)), tt)
aside_in false = push_in

back_in : (t : Bool) → AreIn (bring_back t)
back_in true = tt
back_in false = pop_in

load_in : AreIn (Lw 10 10 (pos 0) ∷ [])
load_in = ((r10, r10, past 0 (omega arith)), tt)

store_in : AreIn (Sw 11 10 (pos 0) ∷ [])
store_in = ((r11, r10, past 0 (omega arith)), tt)

write_in : (q : ℕ) → q ≤ 8 → AreIn (Sw 9 10 (pos (256 + 4 * q)) ∷ [])
write_in q h = ((r9, r10, past (256 + 4 * q) (omega arith)), tt)

end_in : AreIn (Ebreak ∷ [])
end_in = (tt, tt)

prologue_in : AreIn prologue
prologue_in = ((r8, omega arith), ((r9, omega arith), ((r2, omega arith), ((r2, r2, past 256 (omega arith)), tt))))

unless_in : (n : ℕ) → n + 1 ≤ 12005 → AreIn (unless n)
unless_in n h = ((r10, r0, skip_one), ((r0, jump_on (n + 1) h), tt))

choose_in : (e a b : List Instr) → AreIn e → AreIn a → AreIn b → length a + 2 ≤ 12005 → length b + 1 ≤ 12005 → AreIn (choose_code e a b)
choose_in e a b he ha hb la lb =
    joined e _ he (joined (unless (length a + 1)) _ (unless_in (length a + 1) (omega arith)) (joined a _ ha ((r0, jump_on (length b + 1) lb), hb)))

repeat_in : (e a : List Instr) → AreIn e → AreIn a → length e + 2 + length a ≤ 12005 → AreIn (repeat_code e a)
repeat_in e a he ha l =
    joined e _ he (joined (unless (length a + 1)) _ (unless_in (length a + 1) (omega arith)) (joined a _ ha ((r0, jump_back (4 * (length e + 2 + length a)) (omega arith) (omega arith)), tt)))

-- ---- the code of a program

module _ (g : Program) (sound : IsSound g) where
  value_ranged : (e : Value) → IsKnownValue g e → AreIn (value_code g.lengths e)
  value_ranged (Number v) k = const_in 10 v r10
  value_ranged (Scalar s) k = get_in (register_at s) s (place_in s) (let few = sound.scalars in omega arith)
  value_ranged (Element t e) k = joined (value_code g.lengths e) (address g.lengths t ++ Lw 10 10 (pos 0) ∷ []) (value_ranged e k.1) (joined (address g.lengths t) (Lw 10 10 (pos 0) ∷ []) (address_in g.lengths t) load_in)
  value_ranged (Op1 o a) k = joined (value_code g.lengths a) (op1_code o) (value_ranged a k) (op1_in o)
  value_ranged (Op2 o a b) k =
      let back = bring_back (is_short b) ++ op2_code o in
      let has_back : AreIn back = joined (bring_back (is_short b)) (op2_code o) (back_in (is_short b)) (op2_in o) in
      joined (value_code g.lengths a) (set_aside (is_short b) ++ (value_code g.lengths b ++ back)) (value_ranged a k.0) (joined (set_aside (is_short b)) (value_code g.lengths b ++ back) (aside_in (is_short b)) (joined (value_code g.lengths b) back (value_ranged b k.1) has_back))

  action_ranged : (a : Action) → IsKnown g a → action_nodes a ≤ 1000 → AreIn (action_code g.lengths a)
  action_ranged Skip k n = tt
  action_ranged (Then a b) k n = joined (action_code g.lengths a) (action_code g.lengths b) (action_ranged a k.0 (omega arith)) (action_ranged b k.1 (omega arith))
  action_ranged (Assign s e) k n = joined (value_code g.lengths e) (set_scalar s) (value_ranged e k.1) (set_in (register_at s) s (place_in s) (let few = sound.scalars in let here = k.0 in omega arith))
  action_ranged (Store t i e) k n =
      let popped = pop ++ Sw 11 10 (pos 0) ∷ [] in
      let valued = value_code g.lengths e ++ popped in
      let has_valued : AreIn valued = joined (value_code g.lengths e) popped (value_ranged e k.2) (joined pop (Sw 11 10 (pos 0) ∷ []) pop_in store_in) in
      joined (value_code g.lengths i) (address g.lengths t ++ (push ++ valued)) (value_ranged i k.1) (joined (address g.lengths t) (push ++ valued) (address_in g.lengths t) (joined push valued push_in has_valued))
  action_ranged (Read s q) k n = read_in (register_at s) s q (place_in s) (let few = sound.scalars in let here = k.0 in omega arith) (let few = sound.ins in let here = k.1 in omega arith)
  action_ranged (ReadInto t i q) k n =
      joined (value_code g.lengths i) (address g.lengths t ++ read_at q) (value_ranged i k.1) (joined (address g.lengths t) (read_at q) (address_in g.lengths t) (read_at_in q (let few = sound.ins in let here = k.2 in omega arith)))
  action_ranged (Write q e) k n = joined (value_code g.lengths e) (Sw 9 10 (pos (256 + 4 * q)) ∷ []) (value_ranged e k.1) (write_in q (let few = sound.outs in let here = k.0 in omega arith))
  action_ranged (Choose e a b) k n =
      choose_in (value_code g.lengths e) (action_code g.lengths a) (action_code g.lengths b) (value_ranged e k.0) (action_ranged a k.1 (omega arith)) (action_ranged b k.2 (omega arith)) (omega (arith, action_short g.lengths a)) (omega (arith, action_short g.lengths b))
  action_ranged (Repeat e a) k n =
      repeat_in (value_code g.lengths e) (action_code g.lengths a) (value_ranged e k.0) (action_ranged a k.1 (omega arith)) (omega (arith, value_short g.lengths e, action_short g.lengths a))
  action_ranged Return k n = (tt, tt)

  pub code_ranged : AllByRecursion IsInstr (soft_code g)
  code_ranged =
      joined prologue (action_code g.lengths g.body ++ Ebreak ∷ []) prologue_in (joined (action_code g.lengths g.body) (Ebreak ∷ []) (action_ranged g.body sound.known sound.nodes) end_in)
