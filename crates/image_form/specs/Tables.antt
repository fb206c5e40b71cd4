-- Reading the tables of hardware images.
use Rattle.std.specs.Prelude.{ℕ, ◌-◌, ◌&&◌, not, Bool, true, false, List, [], length, sum, count_by, Option, Some, None, Ok, Err, nat_lt, ◌==◌, if◌then◌else◌}
use Rattle.std.specs.List.{list_any}
use Rattle.fsm_core.specs.declared.micro.MicroOp.{MicroOp}
use Rattle.fsm_core.specs.declared.micro.Micro.{Micro}
use Rattle.fsm_core.specs.declared.micro.Next.{Next}
use Rattle.fsm_core.specs.declared.micro.Next.TheVariants.{Goto, Branch, End}
use Rattle.fsm_core.specs.declared.micro.Fields.{Fields}
use Rattle.fsm_core.specs.declared.micro.Fields.TheVariants.{Sets, Sets1, Sets2, Loads, Stores, Reads, Writes}
use Rattle.fsm_core.specs.Fields.{fields_of}
use Rattle.fsm_core.specs.Shapes.{Shape, shape_of, target, writes}
use Rattle.fsm_core.specs.Classes.{class_of, is_same_class, room_of}
use Rattle.fsm_core.specs.Machine.{Stage}
use Rattle.fsm_core.specs.Table.{Plan}
use Rattle.image_form.specs.Ops.{op_of}
use Rattle.image_form.specs.Reading.{Found, Read, ◌>>=◌, bad, byte_at, half_at, word_at, word_in, many}

-- what the fields of a state are bounded by: the counts of the ports, the arrays, the registers and the states
pub record Bounds : Type 0 where
  pub ins : ℕ
  pub outs : ℕ
  pub arrays : ℕ
  pub registers : ℕ
  pub states : ℕ

-- the registers that a micro names are below the count, its array or port exists, and the fields that it
-- doesn't have are 0
abbrev pub fits_by : Fields → Bounds → Micro → Bool
fits_by Sets t m = nat_lt m.t t.registers && (m.a == 0) && (m.b == 0) && (m.unit == 0)
fits_by Sets1 t m = nat_lt m.t t.registers && nat_lt m.a t.registers && (m.b == 0) && (m.unit == 0) && (m.value == 0)
fits_by Sets2 t m = nat_lt m.t t.registers && nat_lt m.a t.registers && nat_lt m.b t.registers && (m.unit == 0) && (m.value == 0)
fits_by Loads t m = nat_lt m.t t.registers && nat_lt m.a t.registers && (m.b == 0) && nat_lt m.unit t.arrays && (m.value == 0)
fits_by Stores t m = (m.t == 0) && nat_lt m.a t.registers && nat_lt m.b t.registers && nat_lt m.unit t.arrays && (m.value == 0)
fits_by Reads t m = nat_lt m.t t.registers && (m.a == 0) && (m.b == 0) && nat_lt m.unit t.ins && (m.value == 0)
fits_by Writes t m = (m.t == 0) && nat_lt m.a t.registers && (m.b == 0) && nat_lt m.unit t.outs && (m.value == 0)

abbrev pub fits : Bounds → Micro → Bool
fits t m = fits_by (fields_of m.op) t m

abbrev pub written : Option ℕ → Shape → Bool
written None m = false
written (Some t) m = writes m t

-- m writes the register that e writes
abbrev pub collides : Micro → Micro → Bool
collides e m = written (target (shape_of e)) (shape_of m)

-- its target is a target of an earlier micro
abbrev pub is_taken : List Micro → Micro → Bool
is_taken before m = list_any (λ e. collides e m) before

-- the state has room for one more of its class
abbrev pub has_room : List Micro → Micro → Bool
has_room before m = nat_lt (count_by (λ e. is_same_class (class_of e) (class_of m)) before) (room_of (class_of m))

-- in range behind the earlier micros of its state
abbrev pub may_follow : Bounds → List Micro → Micro → Bool
may_follow t before m = fits t m && not (is_taken before m) && has_room before m

-- where a state goes on, by a kind, a register and two states; those that it hasn't are 0
abbrev pub next_of : (kind r i j : ℕ) → Option Next
next_of kind r i j =
    if kind == 0 then (if (r == 0) && (j == 0) then Some (Goto i) else None) else
    (if kind == 1 then Some (Branch r i j) else
    (if kind == 2 then (if (r == 0) && (i == 0) && (j == 0) then Some End else None) else None))

-- its register and states are below the counts
abbrev pub leads : Bounds → Next → Bool
leads t (Goto i) = nat_lt i t.states
leads t (Branch r i j) = nat_lt r t.registers && nat_lt i t.states && nat_lt j t.states
leads t End = true

abbrev pub some_of : {A : Type 0} → Option A → (A → Bool) → List ℕ → List ℕ → Read A
some_of None good bytes rest = bad bytes
some_of (Some x) good bytes rest = if good x then Ok (x, rest) else bad bytes

-- parts that are one field together
abbrev pub one_field : {A : Type 0} → List ℕ → Found A → Found A
one_field bytes (Ok x) = Ok x
one_field bytes (Err left) = bad bytes

unfoldable pub op_at : List ℕ → Read MicroOp
op_at bytes = do
  b ← byte_at bytes
  some_of (op_of b.0) (λ o. true) bytes b.1

unfoldable pub micro_parts : List ℕ → Read Micro
micro_parts bytes = do
  op ← op_at bytes
  unit ← byte_at op.1
  t ← half_at unit.1
  a ← half_at t.1
  b ← half_at a.1
  value ← word_at b.1
  Ok (record { op = op.0; unit = unit.0; t = t.0; a = a.0; b = b.0; value = value.0 }, value.1)

unfoldable pub micro_checked : Bounds → List Micro → List ℕ → Read Micro
micro_checked t before bytes = do
  m ← micro_parts bytes
  if may_follow t before m.0 then Ok m else bad bytes

-- a micro is one field
unfoldable pub micro_at : Bounds → List Micro → List ℕ → Read Micro
micro_at t before bytes = one_field bytes (micro_checked t before bytes)

unfoldable pub next_parts : Bounds → List ℕ → Read Next
next_parts t bytes = do
  kind ← byte_at bytes
  r ← half_at kind.1
  i ← word_at r.1
  j ← word_at i.1
  some_of (next_of kind.0 r.0 i.0 j.0) (leads t) bytes j.1

-- where it goes on is one field
unfoldable pub next_at : Bounds → List ℕ → Read Next
next_at t bytes = one_field bytes (next_parts t bytes)

unfoldable pub state_at : Bounds → List ℕ → Read Stage
state_at t bytes = do
  n ← byte_at bytes
  micros ← many (micro_at t) n.0 [] n.1
  next ← next_at t micros.1
  Ok (record { micros = micros.0; next = next.0 }, next.1)

-- an array of one word or more, with at most 8,192 words in all
abbrev pub length_at : List ℕ → List ℕ → Read ℕ
length_at before bytes = word_in 1 (8192 - sum before) bytes

unfoldable pub table_at : (ins outs : ℕ) → List ℕ → Read Plan
table_at ins outs bytes = do
  n ← word_in 0 16 bytes
  arrays ← many length_at n.0 [] n.1
  registers ← word_in 64 65535 arrays.1
  count ← word_in 1 65535 registers.1
  states ← many (λ before. state_at (record { ins = ins; outs = outs; arrays = length arrays.0; registers = registers.0; states = count.0 })) count.0 [] count.1
  Ok (record { ins = ins; outs = outs; arrays = arrays.0; registers = registers.0; states = states.0 }, states.1)
