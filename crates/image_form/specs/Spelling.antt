-- What images hold, which of them are in range, and the one spelling of each.
use Rattle.std.specs.Prelude.{ℕ, ◌≤◌, ◌<◌, ◌^◌, List, [], ◌∷◌, ◌++◌, length, codes, IsSome, All}
use Rattle.std.specs.List.{flat_map}
use Rattle.std.specs.Int.{w16, w32, to_le_bytes}
use Rattle.pld_base.specs.declared.event.Kind.{Kind}
use Rattle.pld_base.specs.declared.event.Kind.TheVariants as kinds
use Rattle.rv_isa.specs.Reading.{decoded}
use Rattle.fsm_core.specs.declared.micro.Micro.{Micro}
use Rattle.fsm_core.specs.declared.micro.Next.{Next}
use Rattle.fsm_core.specs.declared.micro.Next.TheVariants.{Goto, Branch, End}
use Rattle.fsm_core.specs.Machine.{Stage}
use Rattle.fsm_core.specs.Table.{Plan, plan_in, IsTable}
use Rattle.image_form.specs.Ops.{number_of}
use Rattle.image_form.specs.declared.form.ImageForm.{ImageForm}
use Rattle.image_form.specs.declared.form.ImageForm.TheVariants as image

-- an image without where it lies in memory
pub data Form : Type 0 where
  Soft : (ins outs : ℕ) → List ℕ → Form
  Hard : Plan → Form

abbrev pub form_in : ImageForm → Form
form_in (image.Soft ins outs code) = Soft ins outs code.items
form_in (image.Hard table) = Hard (plan_in table)

-- the word of an instruction
abbrev pub IsCode : ℕ → Type 0
IsCode w = IsSome (decoded w)

-- an image in range
abbrev pub IsForm : Form → Type 0
IsForm (Soft ins outs code) = (ins ≤ 8) × (outs ≤ 8) × (1 ≤ length code) × (length code ≤ 32767) × All IsCode code
IsForm (Hard t) = IsTable t

-- its words are words: of code, and of the constants of micros; those of each value of the type are
abbrev pub HasWords : Form → Type 0
HasWords (Soft ins outs code) = All (λ w. w < 2 ^ 32) code
HasWords (Hard t) = All (λ s. All (λ m. m.value < 2 ^ 32) s.micros) t.states

-- 16 bits, the lowest byte first
abbrev pub half : ℕ → List ℕ
half n = to_le_bytes w16 n

-- a word, the lowest byte first
abbrev pub word : ℕ → List ℕ
word w = to_le_bytes w32 w

-- the byte of a kind: `S` or `H`
abbrev pub letter : Kind → ℕ
letter kinds.Soft = 83
letter kinds.Hard = 72

-- `PLDI`, the kind, the ports, and 0
abbrev pub header : Kind → (ins outs : ℕ) → List ℕ
header kind ins outs = codes "PLDI" ++ letter kind ∷ ins ∷ outs ∷ 0 ∷ []

-- the operation, the array or port, the three registers, and the constant
abbrev pub micro_bytes : Micro → List ℕ
micro_bytes m = (number_of m.op ∷ m.unit ∷ []) ++ half m.t ++ half m.a ++ half m.b ++ word m.value

-- the kind, the register, and two states; those that it hasn't are 0
abbrev pub next_bytes : Next → List ℕ
next_bytes (Goto i) = (0 ∷ []) ++ half 0 ++ word i ++ word 0
next_bytes (Branch r i j) = (1 ∷ []) ++ half r ++ word i ++ word j
next_bytes End = (2 ∷ []) ++ half 0 ++ word 0 ++ word 0

-- the count of the micros, the micros, and where it goes on
abbrev pub state_bytes : Stage → List ℕ
state_bytes s = (length s.micros ∷ []) ++ flat_map micro_bytes s.micros ++ next_bytes s.next

-- the count of the arrays, their lengths, the count of the registers, the count of the states, and the states
abbrev pub table_bytes : Plan → List ℕ
table_bytes t = word (length t.arrays) ++ flat_map word t.arrays ++ word t.registers ++ word (length t.states) ++ flat_map state_bytes t.states

-- the count of the words, and the words
abbrev pub code_bytes : List ℕ → List ℕ
code_bytes code = word (length code) ++ flat_map word code

-- the one spelling of an image
abbrev pub bytes_of : Form → List ℕ
bytes_of (Soft ins outs code) = header kinds.Soft ins outs ++ code_bytes code
bytes_of (Hard t) = header kinds.Hard t.ins t.outs ++ table_bytes t
