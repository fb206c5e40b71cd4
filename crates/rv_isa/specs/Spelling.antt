-- The word of each instruction: its format with its opcode, and with its funct3 and funct7 where it has them.
-- RISC-V unprivileged manual, "RV32/64G Instruction Set Listings", RV32I and RV32M.
use Rattle.std.specs.Prelude.{ℕ}
use Rattle.rv_isa.specs.Formats.{r_form, i_form, s_form, b_form, u_form, j_form}
use Rattle.rv_isa.specs.Ranges.{IsReg, IsImm, IsUpper, IsNear, IsFar}
use Rattle.rv_isa.specs.declared.instr.Instr.{Instr}
use Rattle.rv_isa.specs.declared.instr.Instr.TheVariants.{Lui, Auipc, Jal, Jalr, Beq, Bne, Blt, Bge, Bltu, Bgeu, Lb, Lh, Lw, Lbu, Lhu, Sb, Sh, Sw, Addi, Slti, Sltiu, Xori, Ori, Andi, Slli, Srli, Srai, Add, Sub, Sll, Slt, Sltu, Xor, Srl, Sra, Or, And, Mul, Mulh, Mulhsu, Mulhu, Div, Divu, Rem, Remu, Fence, Ecall, Ebreak}

-- a shift by a number has the number in the place of rs2, and imm[11:5] in that of funct7
abbrev pub spelling : Instr → ℕ
spelling (Lui rd upper) = u_form 0x37 rd upper
spelling (Auipc rd upper) = u_form 0x17 rd upper
spelling (Jal rd imm) = j_form 0x6f rd imm
spelling (Jalr rd rs1 imm) = i_form 0x67 0 rd rs1 imm
spelling (Beq rs1 rs2 imm) = b_form 0x63 0 rs1 rs2 imm
spelling (Bne rs1 rs2 imm) = b_form 0x63 1 rs1 rs2 imm
spelling (Blt rs1 rs2 imm) = b_form 0x63 4 rs1 rs2 imm
spelling (Bge rs1 rs2 imm) = b_form 0x63 5 rs1 rs2 imm
spelling (Bltu rs1 rs2 imm) = b_form 0x63 6 rs1 rs2 imm
spelling (Bgeu rs1 rs2 imm) = b_form 0x63 7 rs1 rs2 imm
spelling (Lb rd rs1 imm) = i_form 0x03 0 rd rs1 imm
spelling (Lh rd rs1 imm) = i_form 0x03 1 rd rs1 imm
spelling (Lw rd rs1 imm) = i_form 0x03 2 rd rs1 imm
spelling (Lbu rd rs1 imm) = i_form 0x03 4 rd rs1 imm
spelling (Lhu rd rs1 imm) = i_form 0x03 5 rd rs1 imm
spelling (Sb rs1 rs2 imm) = s_form 0x23 0 rs1 rs2 imm
spelling (Sh rs1 rs2 imm) = s_form 0x23 1 rs1 rs2 imm
spelling (Sw rs1 rs2 imm) = s_form 0x23 2 rs1 rs2 imm
spelling (Addi rd rs1 imm) = i_form 0x13 0 rd rs1 imm
spelling (Slti rd rs1 imm) = i_form 0x13 2 rd rs1 imm
spelling (Sltiu rd rs1 imm) = i_form 0x13 3 rd rs1 imm
spelling (Xori rd rs1 imm) = i_form 0x13 4 rd rs1 imm
spelling (Ori rd rs1 imm) = i_form 0x13 6 rd rs1 imm
spelling (Andi rd rs1 imm) = i_form 0x13 7 rd rs1 imm
spelling (Slli rd rs1 by) = r_form 0x13 1 0x00 rd rs1 by
spelling (Srli rd rs1 by) = r_form 0x13 5 0x00 rd rs1 by
spelling (Srai rd rs1 by) = r_form 0x13 5 0x20 rd rs1 by
spelling (Add rd rs1 rs2) = r_form 0x33 0 0x00 rd rs1 rs2
spelling (Sub rd rs1 rs2) = r_form 0x33 0 0x20 rd rs1 rs2
spelling (Sll rd rs1 rs2) = r_form 0x33 1 0x00 rd rs1 rs2
spelling (Slt rd rs1 rs2) = r_form 0x33 2 0x00 rd rs1 rs2
spelling (Sltu rd rs1 rs2) = r_form 0x33 3 0x00 rd rs1 rs2
spelling (Xor rd rs1 rs2) = r_form 0x33 4 0x00 rd rs1 rs2
spelling (Srl rd rs1 rs2) = r_form 0x33 5 0x00 rd rs1 rs2
spelling (Sra rd rs1 rs2) = r_form 0x33 5 0x20 rd rs1 rs2
spelling (Or rd rs1 rs2) = r_form 0x33 6 0x00 rd rs1 rs2
spelling (And rd rs1 rs2) = r_form 0x33 7 0x00 rd rs1 rs2
spelling (Mul rd rs1 rs2) = r_form 0x33 0 0x01 rd rs1 rs2
spelling (Mulh rd rs1 rs2) = r_form 0x33 1 0x01 rd rs1 rs2
spelling (Mulhsu rd rs1 rs2) = r_form 0x33 2 0x01 rd rs1 rs2
spelling (Mulhu rd rs1 rs2) = r_form 0x33 3 0x01 rd rs1 rs2
spelling (Div rd rs1 rs2) = r_form 0x33 4 0x01 rd rs1 rs2
spelling (Divu rd rs1 rs2) = r_form 0x33 5 0x01 rd rs1 rs2
spelling (Rem rd rs1 rs2) = r_form 0x33 6 0x01 rd rs1 rs2
spelling (Remu rd rs1 rs2) = r_form 0x33 7 0x01 rd rs1 rs2
spelling (Fence rd rs1 imm) = i_form 0x0f 0 rd rs1 imm
spelling Ecall = 0x00000073
spelling Ebreak = 0x00100073

-- its numbers are in their ranges, as those of each value of the type are
abbrev pub IsInstr : Instr → Type 0
IsInstr (Lui rd upper) = IsReg rd × IsUpper upper
IsInstr (Auipc rd upper) = IsReg rd × IsUpper upper
IsInstr (Jal rd imm) = IsReg rd × IsFar imm
IsInstr (Jalr rd rs1 imm) = IsReg rd × IsReg rs1 × IsImm imm
IsInstr (Beq rs1 rs2 imm) = IsReg rs1 × IsReg rs2 × IsNear imm
IsInstr (Bne rs1 rs2 imm) = IsReg rs1 × IsReg rs2 × IsNear imm
IsInstr (Blt rs1 rs2 imm) = IsReg rs1 × IsReg rs2 × IsNear imm
IsInstr (Bge rs1 rs2 imm) = IsReg rs1 × IsReg rs2 × IsNear imm
IsInstr (Bltu rs1 rs2 imm) = IsReg rs1 × IsReg rs2 × IsNear imm
IsInstr (Bgeu rs1 rs2 imm) = IsReg rs1 × IsReg rs2 × IsNear imm
IsInstr (Lb rd rs1 imm) = IsReg rd × IsReg rs1 × IsImm imm
IsInstr (Lh rd rs1 imm) = IsReg rd × IsReg rs1 × IsImm imm
IsInstr (Lw rd rs1 imm) = IsReg rd × IsReg rs1 × IsImm imm
IsInstr (Lbu rd rs1 imm) = IsReg rd × IsReg rs1 × IsImm imm
IsInstr (Lhu rd rs1 imm) = IsReg rd × IsReg rs1 × IsImm imm
IsInstr (Sb rs1 rs2 imm) = IsReg rs1 × IsReg rs2 × IsImm imm
IsInstr (Sh rs1 rs2 imm) = IsReg rs1 × IsReg rs2 × IsImm imm
IsInstr (Sw rs1 rs2 imm) = IsReg rs1 × IsReg rs2 × IsImm imm
IsInstr (Addi rd rs1 imm) = IsReg rd × IsReg rs1 × IsImm imm
IsInstr (Slti rd rs1 imm) = IsReg rd × IsReg rs1 × IsImm imm
IsInstr (Sltiu rd rs1 imm) = IsReg rd × IsReg rs1 × IsImm imm
IsInstr (Xori rd rs1 imm) = IsReg rd × IsReg rs1 × IsImm imm
IsInstr (Ori rd rs1 imm) = IsReg rd × IsReg rs1 × IsImm imm
IsInstr (Andi rd rs1 imm) = IsReg rd × IsReg rs1 × IsImm imm
IsInstr (Slli rd rs1 by) = IsReg rd × IsReg rs1 × IsReg by
IsInstr (Srli rd rs1 by) = IsReg rd × IsReg rs1 × IsReg by
IsInstr (Srai rd rs1 by) = IsReg rd × IsReg rs1 × IsReg by
IsInstr (Add rd rs1 rs2) = IsReg rd × IsReg rs1 × IsReg rs2
IsInstr (Sub rd rs1 rs2) = IsReg rd × IsReg rs1 × IsReg rs2
IsInstr (Sll rd rs1 rs2) = IsReg rd × IsReg rs1 × IsReg rs2
IsInstr (Slt rd rs1 rs2) = IsReg rd × IsReg rs1 × IsReg rs2
IsInstr (Sltu rd rs1 rs2) = IsReg rd × IsReg rs1 × IsReg rs2
IsInstr (Xor rd rs1 rs2) = IsReg rd × IsReg rs1 × IsReg rs2
IsInstr (Srl rd rs1 rs2) = IsReg rd × IsReg rs1 × IsReg rs2
IsInstr (Sra rd rs1 rs2) = IsReg rd × IsReg rs1 × IsReg rs2
IsInstr (Or rd rs1 rs2) = IsReg rd × IsReg rs1 × IsReg rs2
IsInstr (And rd rs1 rs2) = IsReg rd × IsReg rs1 × IsReg rs2
IsInstr (Mul rd rs1 rs2) = IsReg rd × IsReg rs1 × IsReg rs2
IsInstr (Mulh rd rs1 rs2) = IsReg rd × IsReg rs1 × IsReg rs2
IsInstr (Mulhsu rd rs1 rs2) = IsReg rd × IsReg rs1 × IsReg rs2
IsInstr (Mulhu rd rs1 rs2) = IsReg rd × IsReg rs1 × IsReg rs2
IsInstr (Div rd rs1 rs2) = IsReg rd × IsReg rs1 × IsReg rs2
IsInstr (Divu rd rs1 rs2) = IsReg rd × IsReg rs1 × IsReg rs2
IsInstr (Rem rd rs1 rs2) = IsReg rd × IsReg rs1 × IsReg rs2
IsInstr (Remu rd rs1 rs2) = IsReg rd × IsReg rs1 × IsReg rs2
IsInstr (Fence rd rs1 imm) = IsReg rd × IsReg rs1 × IsImm imm
IsInstr Ecall = Unit {0}
IsInstr Ebreak = Unit {0}
