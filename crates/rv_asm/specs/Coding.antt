-- From what is written to instructions: ranges, targets and labels.
use Rattle.std.specs.Prelude.{ℕ, suc, ◌*◌, ◌%◌, ◌==◌, Bool, false, ◌&&◌, nat_lt, if◌then◌else◌, ℤ, pos, negsuc, nat_abs, int_le, ◌-ℤ◌, List, [], ◌∷◌, ◌++◌, Option, Some, None, Result, Ok, Err}
use Rattle.std.specs.Str.{bytes_eq}
use Rattle.pld_base.specs.declared.fault.FaultKind.{FaultKind}
use Rattle.pld_base.specs.declared.fault.FaultKind.TheVariants.{NameTwice, UnknownName, OutOfRange}
use Rattle.pld_base.specs.declared.fault.SourceFault.{SourceFault}
use Rattle.rv_isa.specs.Spelling.{spelling}
use Rattle.rv_text.specs.Forms.{instr_of}
use Rattle.rv_text.specs.declared.form.Form.{Form}
use Rattle.rv_text.specs.declared.form.Form.TheVariants as form
use Rattle.rv_asm.specs.declared.labels.Seat.{Seat}
use Rattle.rv_asm.specs.declared.written.Target.{Target}
use Rattle.rv_asm.specs.declared.written.Target.TheVariants.{Label, Offset}
use Rattle.rv_asm.specs.declared.written.Written.{Written}
use Rattle.rv_asm.specs.declared.written.Written.TheVariants as w
use Rattle.rv_asm.specs.declared.written.Line.{Line}
use Rattle.rv_asm.specs.declared.written.Line.TheVariants as line

-- the seat of the first label of this name among lines, of which the first has this number and this many instructions stand
-- in front of it
abbrev pub first_label : (name : List ℕ) (number before : ℕ) → List Line → Option Seat
first_label name number before [] = None
first_label name number before (line.Empty ∷ lines) = first_label name (suc number) before lines
first_label name number before (line.Label label ∷ lines) =
    if bytes_eq label name then Some (record { line = number; before = before }) else first_label name (suc number) before lines
first_label name number before (line.Instruction written ∷ lines) = first_label name (suc number) (suc before) lines

-- where the labels of a text stand
abbrev pub Labels : Type 0
Labels = List ℕ → Option Seat

-- the label stands on an earlier line than this one
abbrev pub stands_before : ℕ → Option Seat → Bool
stands_before number None = false
stands_before number (Some seat) = nat_lt seat.line number

-- from one instruction to another, by how many stand in front of each
abbrev pub distance : Option Seat → ℕ → Result ℤ FaultKind
distance None here = Err UnknownName
distance (Some seat) here = Ok (pos (4 * seat.before) -ℤ pos (4 * here))

-- how far a target is from the instruction that has so many in front of it, in bytes
abbrev pub offset_of : Labels → ℕ → Target → Result ℤ FaultKind
offset_of labels here (Label name) = distance (labels name) here
offset_of labels here (Offset bytes) = Ok bytes

abbrev pub within : (low high : ℤ) → ℤ → Bool
within low high z = int_le low z && int_le z high

abbrev pub is_even : ℤ → Bool
is_even z = nat_abs z % 2 == 0

-- a number without a sign, up to the highest
abbrev pub unsigned_of : ℕ → ℤ → Result ℕ FaultKind
unsigned_of high z = if within (pos 0) (pos high) z then Ok (nat_abs z) else Err OutOfRange

-- a number of 12 bits with a sign
abbrev pub imm_of : ℤ → Result ℤ FaultKind
imm_of z = if within (negsuc 2047) (pos 2047) z then Ok z else Err OutOfRange

-- a branch's offset
abbrev pub near_of : ℤ → Result ℤ FaultKind
near_of z = if within (negsuc 4095) (pos 4094) z && is_even z then Ok z else Err OutOfRange

-- a jump's offset
abbrev pub far_of : ℤ → Result ℤ FaultKind
far_of z = if within (negsuc 1048575) (pos 1048574) z && is_even z then Ok z else Err OutOfRange

-- what follows from a value, where there is no fault
abbrev pub on_value : {A B : Type 0} → Result A FaultKind → (A → Result B FaultKind) → Result B FaultKind
on_value (Ok x) next = next x
on_value (Err fault) next = Err fault

-- what is written so, with so many instructions in front of it
abbrev pub coded : Labels → ℕ → Written → Result Form FaultKind
coded labels here (w.Upper name rd z) = on_value (unsigned_of 1048575 z) (λ imm. Ok (form.Upper name rd imm))
coded labels here (w.Jump rd target) = on_value (offset_of labels here target) (λ z. on_value (far_of z) (λ imm. Ok (form.Jump rd imm)))
coded labels here (w.Branch name rs1 rs2 target) = on_value (offset_of labels here target) (λ z. on_value (near_of z) (λ imm. Ok (form.Branch name rs1 rs2 imm)))
coded labels here (w.Address name rd rs1 z) = on_value (imm_of z) (λ imm. Ok (form.Address name rd rs1 imm))
coded labels here (w.Store name rs1 rs2 z) = on_value (imm_of z) (λ imm. Ok (form.Store name rs1 rs2 imm))
coded labels here (w.Shift name rd rs1 z) = on_value (unsigned_of 31 z) (λ by. Ok (form.Shift name rd rs1 by))
coded labels here (w.Number name rd rs1 z) = on_value (imm_of z) (λ imm. Ok (form.Number name rd rs1 imm))
coded labels here (w.Registers name rd rs1 rs2) = Ok (form.Registers name rd rs1 rs2)
coded labels here (w.Bare name) = Ok (form.Bare name)

-- a fault of this line
abbrev pub fault_at : ℕ → FaultKind → SourceFault
fault_at number kind = record { kind = kind; line = number; column = 1 }

abbrev pub Words : Type 0
Words = Result (List ℕ) SourceFault

-- the word of an instruction, in front of those of the lines behind it
abbrev pub in_front : ℕ → Result Form FaultKind → Words → Words
in_front number (Err kind) behind = Err (fault_at number kind)
in_front number (Ok f) (Ok words) = Ok (spelling (instr_of f) ∷ words)
in_front number (Ok f) (Err fault) = Err fault

-- the words of lines, or the fault of the first one that has one: a label that stands before, or an instruction's
abbrev pub code_of : Labels → (number before : ℕ) → List Line → Words
code_of labels number before [] = Ok []
code_of labels number before (line.Empty ∷ lines) = code_of labels (suc number) before lines
code_of labels number before (line.Label name ∷ lines) =
    if stands_before number (labels name) then Err (fault_at number NameTwice) else code_of labels (suc number) before lines
code_of labels number before (line.Instruction written ∷ lines) =
    in_front number (coded labels before written) (code_of labels (suc number) (suc before) lines)

-- words so far, in front of these
abbrev pub led : List ℕ → Words → Words
led front (Ok words) = Ok (front ++ words)
led front (Err fault) = Err fault
