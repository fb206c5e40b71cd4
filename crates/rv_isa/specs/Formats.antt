-- The formats of the words: RISC-V unprivileged manual, "RV32I Base Integer Instruction Set", R, I, S, B, U
-- and J. A part that begins at bit k counts 2 ^ k times.
use Rattle.std.specs.Prelude.{ℕ, ◌+◌, ◌-◌, ◌*◌, ◌/◌, ◌%◌, ◌^◌, ℤ, pos, negsuc}

-- a signed number in n bits, by two's complement; negsuc k is -1 - k
abbrev pub in_bits : ℕ → ℤ → ℕ
in_bits n (pos k) = k
in_bits n (negsuc k) = 2 ^ n - 1 - k

-- the bits of v from high down to low, as a number
abbrev pub bits : (v high low : ℕ) → ℕ
bits v high low = v / 2 ^ low % 2 ^ (high + 1 - low)

abbrev pub r_form : (opcode funct3 funct7 rd rs1 rs2 : ℕ) → ℕ
r_form opcode funct3 funct7 rd rs1 rs2 =
    opcode + rd * 2 ^ 7 + funct3 * 2 ^ 12 + rs1 * 2 ^ 15 + rs2 * 2 ^ 20 + funct7 * 2 ^ 25

abbrev pub i_form : (opcode funct3 rd rs1 : ℕ) → ℤ → ℕ
i_form opcode funct3 rd rs1 imm =
    opcode + rd * 2 ^ 7 + funct3 * 2 ^ 12 + rs1 * 2 ^ 15 + in_bits 12 imm * 2 ^ 20

abbrev pub s_form : (opcode funct3 rs1 rs2 : ℕ) → ℤ → ℕ
s_form opcode funct3 rs1 rs2 imm =
    opcode + bits (in_bits 12 imm) 4 0 * 2 ^ 7 + funct3 * 2 ^ 12 + rs1 * 2 ^ 15 + rs2 * 2 ^ 20 + bits (in_bits 12 imm) 11 5 * 2 ^ 25

abbrev pub b_form : (opcode funct3 rs1 rs2 : ℕ) → ℤ → ℕ
b_form opcode funct3 rs1 rs2 imm =
    opcode + bits (in_bits 13 imm) 11 11 * 2 ^ 7 + bits (in_bits 13 imm) 4 1 * 2 ^ 8 + funct3 * 2 ^ 12 + rs1 * 2 ^ 15 + rs2 * 2 ^ 20
    + bits (in_bits 13 imm) 10 5 * 2 ^ 25 + bits (in_bits 13 imm) 12 12 * 2 ^ 31

abbrev pub u_form : (opcode rd upper : ℕ) → ℕ
u_form opcode rd upper = opcode + rd * 2 ^ 7 + upper * 2 ^ 12

abbrev pub j_form : (opcode rd : ℕ) → ℤ → ℕ
j_form opcode rd imm =
    opcode + rd * 2 ^ 7 + bits (in_bits 21 imm) 19 12 * 2 ^ 12 + bits (in_bits 21 imm) 11 11 * 2 ^ 20
    + bits (in_bits 21 imm) 10 1 * 2 ^ 21 + bits (in_bits 21 imm) 20 20 * 2 ^ 31
