-- What a text assembles to.
use Rattle.std.specs.Prelude.{ℕ, suc, ◌+◌, ◌==◌, nat_lt, if◌then◌else◌, List, [], ◌∷◌, ◌++◌, length, Option, Some, None, Result, Ok, Err}
use Rattle.pld_base.specs.declared.fault.FaultKind.TheVariants.{BadAsm, TooLarge}
use Rattle.pld_base.specs.declared.fault.Limit.TheVariants as limit
use Rattle.pld_base.specs.declared.fault.SourceFault.{SourceFault}
use Rattle.pld_base.specs.declared.memory.Refused.{Refused}
use Rattle.pld_base.specs.declared.memory.Refused.TheVariants.{Fault, NoMemory}
use Rattle.rv_asm.specs.Words.{lines_of}
use Rattle.rv_asm.specs.Forms.{line_in, ports_in, is_empty_line}
use Rattle.rv_asm.specs.Coding.{Words, fault_at, first_label, code_of}
use Rattle.rv_asm.specs.declared.assembling.AsmOp.{AsmOp}
use Rattle.rv_asm.specs.declared.written.Line.{Line}
use Rattle.rv_asm.specs.declared.written.Line.TheVariants as line

-- an operator: the counts of its ports, and its code
pub record Op : Type 0 where
  pub ins : ℕ
  pub outs : ℕ
  pub code : List ℕ

abbrev pub op_in : AsmOp → Op
op_in op = record { ins = op.ins; outs = op.outs; code = op.code.items }

-- this line, in front of those behind it
abbrev pub line_before : ℕ → Option Line → Result (List Line) SourceFault → Result (List Line) SourceFault
line_before number None behind = Err (fault_at number BadAsm)
line_before number (Some l) (Ok lines) = Ok (l ∷ lines)
line_before number (Some l) (Err fault) = Err fault

-- what the lines are, of which the first has this number, or the fault of the first one without a form
abbrev pub lines_in : ℕ → List (List ℕ) → Result (List Line) SourceFault
lines_in number [] = Ok []
lines_in number (l ∷ text) = line_before number (line_in l) (lines_in (suc number) text)

-- lines so far, in front of these
abbrev pub after_lines : List Line → Result (List Line) SourceFault → Result (List Line) SourceFault
after_lines front (Ok lines) = Ok (front ++ lines)
after_lines front (Err fault) = Err fault

-- how many of them are instructions
abbrev pub instructions : List Line → ℕ
instructions [] = 0
instructions (line.Empty ∷ lines) = instructions lines
instructions (line.Label name ∷ lines) = instructions lines
instructions (line.Instruction written ∷ lines) = suc (instructions lines)

abbrev pub op_of : ℕ × ℕ → Words → Result Op SourceFault
op_of ports (Ok words) = Ok (record { ins = ports.0; outs = ports.1; code = words })
op_of ports (Err fault) = Err fault

-- the operator of these lines, of which the first has this number; one instruction must be there
abbrev pub op_with : ℕ × ℕ → ℕ → Result (List Line) SourceFault → Result Op SourceFault
op_with ports number (Err fault) = Err fault
op_with ports number (Ok lines) =
    if instructions lines == 0 then Err (fault_at (number + length lines) BadAsm)
    else op_of ports (code_of (λ name. first_label name number 0 lines) number 0 lines)

-- the line of the ports, and those behind it
abbrev pub behind_ports : ℕ → Option (ℕ × ℕ) → List (List ℕ) → Result Op SourceFault
behind_ports number None text = Err (fault_at number BadAsm)
behind_ports number (Some ports) text = op_with ports (suc number) (lines_in (suc number) text)

-- the lines from this number on, before the line of the ports has come
abbrev pub from_line : ℕ → List (List ℕ) → Result Op SourceFault
from_line number [] = Err (fault_at number BadAsm)
from_line number (l ∷ text) = if is_empty_line l then from_line (suc number) text else behind_ports number (ports_in l) text

-- the operator that a text spells, or its first fault
abbrev pub assembled : List ℕ → Result Op SourceFault
assembled text = if nat_lt 65536 (length text) then Err (fault_at 1 (TooLarge limit.Text)) else from_line 1 (lines_of text)

-- what is said of a fault; nothing is said of want of memory
abbrev pub IfFault : Refused SourceFault → (SourceFault → Type 0) → Type 0
IfFault (Fault fault) P = P fault
IfFault NoMemory P = Unit {0}
