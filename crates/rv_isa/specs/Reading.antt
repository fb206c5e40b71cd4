-- The instruction of a word, by tests of its parts. It is the inverse of the spelling, as decode's clauses tell.
use Rattle.std.specs.Prelude.{ℕ, ◌+◌, ◌-◌, ◌*◌, ◌/◌, ◌%◌, ◌^◌, ℤ, pos, negsuc, nat_eq, nat_lt, if◌then◌else◌, Option, Some, None}
use Rattle.rv_isa.specs.Formats.{bits}
use Rattle.rv_isa.specs.declared.instr.Instr.{Instr}
use Rattle.rv_isa.specs.declared.instr.Instr.TheVariants.{Lui, Auipc, Jal, Jalr, Beq, Bne, Blt, Bge, Bltu, Bgeu, Lb, Lh, Lw, Lbu, Lhu, Sb, Sh, Sw, Addi, Slti, Sltiu, Xori, Ori, Andi, Slli, Srli, Srai, Add, Sub, Sll, Slt, Sltu, Xor, Srl, Sra, Or, And, Mul, Mulh, Mulhsu, Mulhu, Div, Divu, Rem, Remu, Fence, Ecall, Ebreak}

-- the parts of a word
abbrev pub opcode_in : ℕ → ℕ
opcode_in w = w % 2 ^ 7

abbrev pub rd_in : ℕ → ℕ
rd_in w = w / 2 ^ 7 % 2 ^ 5

abbrev pub funct3_in : ℕ → ℕ
funct3_in w = w / 2 ^ 12 % 2 ^ 3

abbrev pub rs1_in : ℕ → ℕ
rs1_in w = w / 2 ^ 15 % 2 ^ 5

abbrev pub rs2_in : ℕ → ℕ
rs2_in w = w / 2 ^ 20 % 2 ^ 5

abbrev pub funct7_in : ℕ → ℕ
funct7_in w = w / 2 ^ 25

abbrev pub upper_in : ℕ → ℕ
upper_in w = w / 2 ^ 12

-- n bits as a number with a sign
abbrev pub signed : (n v : ℕ) → ℤ
signed n v = if nat_lt v (2 ^ (n - 1)) then pos v else negsuc (2 ^ n - 1 - v)

abbrev pub imm_in : ℕ → ℤ
imm_in w = signed 12 (w / 2 ^ 20)

abbrev pub offset_in : ℕ → ℤ
offset_in w = signed 12 (bits w 11 7 + bits w 31 25 * 2 ^ 5)

abbrev pub near_in : ℕ → ℤ
near_in w = signed 13 (bits w 11 8 * 2 + bits w 30 25 * 2 ^ 5 + bits w 7 7 * 2 ^ 11 + bits w 31 31 * 2 ^ 12)

abbrev pub far_in : ℕ → ℤ
far_in w = signed 21 (bits w 30 21 * 2 + bits w 20 20 * 2 ^ 11 + bits w 19 12 * 2 ^ 12 + bits w 31 31 * 2 ^ 20)

abbrev pub jump_of : (f3 w : ℕ) → Option Instr
jump_of f3 w = if nat_eq f3 0 then Some (Jalr (rd_in w) (rs1_in w) (imm_in w)) else None

abbrev pub fence_of : (f3 w : ℕ) → Option Instr
fence_of f3 w = if nat_eq f3 0 then Some (Fence (rd_in w) (rs1_in w) (imm_in w)) else None

abbrev pub shift_left_of : (f7 w : ℕ) → Option Instr
shift_left_of f7 w = if nat_eq f7 0 then Some (Slli (rd_in w) (rs1_in w) (rs2_in w)) else None

abbrev pub branch_of : (f3 w : ℕ) → Option Instr
branch_of f3 w =
    if nat_eq f3 0 then Some (Beq (rs1_in w) (rs2_in w) (near_in w)) else (
    if nat_eq f3 1 then Some (Bne (rs1_in w) (rs2_in w) (near_in w)) else (
    if nat_eq f3 4 then Some (Blt (rs1_in w) (rs2_in w) (near_in w)) else (
    if nat_eq f3 5 then Some (Bge (rs1_in w) (rs2_in w) (near_in w)) else (
    if nat_eq f3 6 then Some (Bltu (rs1_in w) (rs2_in w) (near_in w)) else (
    if nat_eq f3 7 then Some (Bgeu (rs1_in w) (rs2_in w) (near_in w)) else None)))))

abbrev pub load_of : (f3 w : ℕ) → Option Instr
load_of f3 w =
    if nat_eq f3 0 then Some (Lb (rd_in w) (rs1_in w) (imm_in w)) else (
    if nat_eq f3 1 then Some (Lh (rd_in w) (rs1_in w) (imm_in w)) else (
    if nat_eq f3 2 then Some (Lw (rd_in w) (rs1_in w) (imm_in w)) else (
    if nat_eq f3 4 then Some (Lbu (rd_in w) (rs1_in w) (imm_in w)) else (
    if nat_eq f3 5 then Some (Lhu (rd_in w) (rs1_in w) (imm_in w)) else None))))

abbrev pub store_of : (f3 w : ℕ) → Option Instr
store_of f3 w =
    if nat_eq f3 0 then Some (Sb (rs1_in w) (rs2_in w) (offset_in w)) else (
    if nat_eq f3 1 then Some (Sh (rs1_in w) (rs2_in w) (offset_in w)) else (
    if nat_eq f3 2 then Some (Sw (rs1_in w) (rs2_in w) (offset_in w)) else None))

abbrev pub shift_right_of : (f7 w : ℕ) → Option Instr
shift_right_of f7 w =
    if nat_eq f7 0x00 then Some (Srli (rd_in w) (rs1_in w) (rs2_in w)) else (
    if nat_eq f7 0x20 then Some (Srai (rd_in w) (rs1_in w) (rs2_in w)) else None)

abbrev pub op_imm_of : (f3 f7 w : ℕ) → Option Instr
op_imm_of f3 f7 w =
    if nat_eq f3 0 then Some (Addi (rd_in w) (rs1_in w) (imm_in w)) else (
    if nat_eq f3 1 then shift_left_of f7 w else (
    if nat_eq f3 2 then Some (Slti (rd_in w) (rs1_in w) (imm_in w)) else (
    if nat_eq f3 3 then Some (Sltiu (rd_in w) (rs1_in w) (imm_in w)) else (
    if nat_eq f3 4 then Some (Xori (rd_in w) (rs1_in w) (imm_in w)) else (
    if nat_eq f3 5 then shift_right_of f7 w else (
    if nat_eq f3 6 then Some (Ori (rd_in w) (rs1_in w) (imm_in w)) else (
    if nat_eq f3 7 then Some (Andi (rd_in w) (rs1_in w) (imm_in w)) else None)))))))

abbrev pub base_op_of : (f3 w : ℕ) → Option Instr
base_op_of f3 w =
    if nat_eq f3 0 then Some (Add (rd_in w) (rs1_in w) (rs2_in w)) else (
    if nat_eq f3 1 then Some (Sll (rd_in w) (rs1_in w) (rs2_in w)) else (
    if nat_eq f3 2 then Some (Slt (rd_in w) (rs1_in w) (rs2_in w)) else (
    if nat_eq f3 3 then Some (Sltu (rd_in w) (rs1_in w) (rs2_in w)) else (
    if nat_eq f3 4 then Some (Xor (rd_in w) (rs1_in w) (rs2_in w)) else (
    if nat_eq f3 5 then Some (Srl (rd_in w) (rs1_in w) (rs2_in w)) else (
    if nat_eq f3 6 then Some (Or (rd_in w) (rs1_in w) (rs2_in w)) else (
    if nat_eq f3 7 then Some (And (rd_in w) (rs1_in w) (rs2_in w)) else None)))))))

abbrev pub turned_op_of : (f3 w : ℕ) → Option Instr
turned_op_of f3 w =
    if nat_eq f3 0 then Some (Sub (rd_in w) (rs1_in w) (rs2_in w)) else (
    if nat_eq f3 5 then Some (Sra (rd_in w) (rs1_in w) (rs2_in w)) else None)

abbrev pub multiply_of : (f3 w : ℕ) → Option Instr
multiply_of f3 w =
    if nat_eq f3 0 then Some (Mul (rd_in w) (rs1_in w) (rs2_in w)) else (
    if nat_eq f3 1 then Some (Mulh (rd_in w) (rs1_in w) (rs2_in w)) else (
    if nat_eq f3 2 then Some (Mulhsu (rd_in w) (rs1_in w) (rs2_in w)) else (
    if nat_eq f3 3 then Some (Mulhu (rd_in w) (rs1_in w) (rs2_in w)) else (
    if nat_eq f3 4 then Some (Div (rd_in w) (rs1_in w) (rs2_in w)) else (
    if nat_eq f3 5 then Some (Divu (rd_in w) (rs1_in w) (rs2_in w)) else (
    if nat_eq f3 6 then Some (Rem (rd_in w) (rs1_in w) (rs2_in w)) else (
    if nat_eq f3 7 then Some (Remu (rd_in w) (rs1_in w) (rs2_in w)) else None)))))))

abbrev pub op_of : (f3 f7 w : ℕ) → Option Instr
op_of f3 f7 w =
    if nat_eq f7 0 then base_op_of f3 w else (
    if nat_eq f7 1 then multiply_of f3 w else (
    if nat_eq f7 0x20 then turned_op_of f3 w else None))

abbrev pub system_of : (w : ℕ) → Option Instr
system_of w =
    if nat_eq w 0x00000073 then Some Ecall else (
    if nat_eq w 0x00100073 then Some Ebreak else None)

abbrev pub read_as : (opcode f3 f7 w : ℕ) → Option Instr
read_as opcode f3 f7 w =
    if nat_eq opcode 0x37 then Some (Lui (rd_in w) (upper_in w)) else (
    if nat_eq opcode 0x17 then Some (Auipc (rd_in w) (upper_in w)) else (
    if nat_eq opcode 0x6f then Some (Jal (rd_in w) (far_in w)) else (
    if nat_eq opcode 0x67 then jump_of f3 w else (
    if nat_eq opcode 0x63 then branch_of f3 w else (
    if nat_eq opcode 0x03 then load_of f3 w else (
    if nat_eq opcode 0x23 then store_of f3 w else (
    if nat_eq opcode 0x13 then op_imm_of f3 f7 w else (
    if nat_eq opcode 0x33 then op_of f3 f7 w else (
    if nat_eq opcode 0x0f then fence_of f3 w else (
    if nat_eq opcode 0x73 then system_of w else None))))))))))

-- the instruction of a word
abbrev pub decoded : ℕ → Option Instr
decoded w = read_as (opcode_in w) (funct3_in w) (funct7_in w) w
