-- The decoder gives each instruction back from its word: a lemma for each format.
use Rattle.std.proofs.Common.{◌≡◌, ◌<◌, ℕ, ◌+◌, ◌-◌, ◌*◌, ◌/◌, ◌%◌, ◌^◌, ℤ, pos, negsuc, Some, refl, ap, ◌∙◌, arith}
use Rattle.std.proofs.lemmas.Bool.Decides.{nat_tests}
use Rattle.std.proofs.lemmas.Int.{ints}
use Rattle.std.specs.Prelude.{Bool, true, false, nat_lt, if◌then◌else◌}
use Rattle.rv_isa.specs.Formats.{in_bits, bits, r_form, i_form, s_form, b_form, u_form, j_form}
use Rattle.rv_isa.specs.Ranges.{IsReg, IsImm, IsUpper, IsNear, IsFar}
use Rattle.rv_isa.specs.Reading.{opcode_in, rd_in, funct3_in, rs1_in, rs2_in, funct7_in, upper_in, imm_in, offset_in, near_in, signed, read_as, decoded}
use Rattle.rv_isa.specs.Spelling.{spelling, IsInstr}
use Rattle.rv_isa.specs.declared.instr.Instr.{Instr}
use Rattle.rv_isa.specs.declared.instr.Instr.TheVariants.{Lui, Auipc, Jal, Jalr, Beq, Bne, Blt, Bge, Bltu, Bgeu, Lb, Lh, Lw, Lbu, Lhu, Sb, Sh, Sw, Addi, Slti, Sltiu, Xori, Ori, Andi, Slli, Srli, Srai, Add, Sub, Sll, Slt, Sltu, Xor, Srl, Sra, Or, And, Mul, Mulh, Mulhsu, Mulhu, Div, Divu, Rem, Remu, Fence, Ecall, Ebreak}

-- a number with a sign comes back from its n bits; p is half of q
from_low : (p q k : ℕ) → k < p → (if nat_lt k p then pos k else negsuc (q - 1 - k)) ≡ pos k
from_low p q k h = grind (arith, nat_tests)

from_high : (p q k : ℕ) → k < p → q ≡ p + p → (if nat_lt (q - 1 - k) p then pos (q - 1 - k) else negsuc (q - 1 - (q - 1 - k))) ≡ negsuc k
from_high p q k h e = from_test (nat_lt (q - 1 - k) p) refl
  where
    from_test : (t : Bool) → t ≡ nat_lt (q - 1 - k) p → (if t then pos (q - 1 - k) else negsuc (q - 1 - (q - 1 - k))) ≡ negsuc k
    from_test true e2 = let f : q - 1 - k < p = grind (arith, nat_tests) in absurd (omega arith)
    from_test false e2 = ap negsuc (omega arith)

imm_back : (z : ℤ) → IsImm z → signed 12 (in_bits 12 z) ≡ z
imm_back (pos k) h = from_low 2048 4096 k (omega (arith, ints))
imm_back (negsuc k) h = from_high 2048 4096 k (omega (arith, ints)) refl

near_back : (z : ℤ) → IsNear z → signed 13 (in_bits 13 z) ≡ z
near_back (pos k) h = from_low 4096 8192 k (omega (arith, ints))
near_back (negsuc k) h = from_high 4096 8192 k (omega (arith, ints)) refl

far_back : (z : ℤ) → IsFar z → signed 21 (in_bits 21 z) ≡ z
far_back (pos k) h = from_low 0x100000 0x200000 k (omega (arith, ints))
far_back (negsuc k) h = from_high 0x100000 0x200000 k (omega (arith, ints)) refl

imm_below : (z : ℤ) → IsImm z → in_bits 12 z < 2 ^ 12
imm_below (pos k) h = omega (arith, ints)
imm_below (negsuc k) h = omega (arith, ints)

near_below : (z : ℤ) → IsNear z → (in_bits 13 z < 2 ^ 13) × (in_bits 13 z % 2 ≡ 0)
near_below (pos k) h = (omega (arith, ints), h.even)
near_below (negsuc k) h = (omega (arith, ints), omega (arith, ints, h.even))

far_below : (z : ℤ) → IsFar z → (in_bits 21 z < 2 ^ 21) × (in_bits 21 z % 2 ≡ 0)
far_below (pos k) h = (omega (arith, ints), h.even)
far_below (negsuc k) h = (omega (arith, ints), omega (arith, ints, h.even))

-- the parts of a word, put in by their equations
read_at : (w opcode f3 f7 : ℕ) → opcode_in w ≡ opcode → funct3_in w ≡ f3 → funct7_in w ≡ f7 → decoded w ≡ read_as opcode f3 f7 w
read_at w opcode f3 f7 e1 e2 e3 =
    ap (λ o. read_as o (funct3_in w) (funct7_in w) w) e1 ∙ ap (λ f. read_as opcode f (funct7_in w) w) e2 ∙ ap (λ f. read_as opcode f3 f w) e3

made_of : {A B C : Type 0} (make : A → B → C → Instr) {a a1 : A} {b b1 : B} {c c1 : C} → a ≡ a1 → b ≡ b1 → c ≡ c1 → Some (make a b c) ≡ Some (make a1 b1 c1)
made_of make {a1 = a1} {b = b} {b1 = b1} {c = c} e1 e2 e3 = ap (λ x. Some (make x b c)) e1 ∙ ap (λ x. Some (make a1 x c)) e2 ∙ ap (λ x. Some (make a1 b1 x)) e3

r_spelled : (make : ℕ → ℕ → ℕ → Instr) (opcode f3 f7 rd a b : ℕ) → opcode < 2 ^ 7 → f3 < 2 ^ 3 → f7 < 2 ^ 7 → (IsReg rd × IsReg a × IsReg b) → ((w : ℕ) → read_as opcode f3 f7 w ≡ Some (make (rd_in w) (rs1_in w) (rs2_in w))) → decoded (r_form opcode f3 f7 rd a b) ≡ Some (make rd a b)
r_spelled make opcode f3 f7 rd a b h1 h2 h3 h reads =
    let w = r_form opcode f3 f7 rd a b in
    read_at w opcode f3 f7 (omega arith) (omega arith) (omega arith) ∙ reads w ∙ made_of make (omega arith) (omega arith) (omega arith)

i_spelled : (make : ℕ → ℕ → ℤ → Instr) (opcode f3 rd a : ℕ) (imm : ℤ) → opcode < 2 ^ 7 → f3 < 2 ^ 3 → (IsReg rd × IsReg a × IsImm imm) → ((f7 w : ℕ) → read_as opcode f3 f7 w ≡ Some (make (rd_in w) (rs1_in w) (imm_in w))) → decoded (i_form opcode f3 rd a imm) ≡ Some (make rd a imm)
i_spelled make opcode f3 rd a imm h1 h2 h reads =
    by_bits (in_bits 12 imm) (imm_below imm h.2) (imm_back imm h.2)
  where
    by_bits : (v : ℕ) → v < 2 ^ 12 → signed 12 v ≡ imm → decoded (opcode + rd * 2 ^ 7 + f3 * 2 ^ 12 + a * 2 ^ 15 + v * 2 ^ 20) ≡ Some (make rd a imm)
    by_bits v low back =
        let w = opcode + rd * 2 ^ 7 + f3 * 2 ^ 12 + a * 2 ^ 15 + v * 2 ^ 20 in
        let e : w / 2 ^ 20 ≡ v = omega arith in
        read_at w opcode f3 (funct7_in w) (omega arith) (omega arith) refl ∙ reads (funct7_in w) w ∙ made_of make (omega arith) (omega arith) (ap (signed 12) e ∙ back)

s_spelled : (make : ℕ → ℕ → ℤ → Instr) (f3 a b : ℕ) (imm : ℤ) → f3 < 2 ^ 3 → (IsReg a × IsReg b × IsImm imm) → ((f7 w : ℕ) → read_as 0x23 f3 f7 w ≡ Some (make (rs1_in w) (rs2_in w) (offset_in w))) → decoded (s_form 0x23 f3 a b imm) ≡ Some (make a b imm)
s_spelled make f3 a b imm h2 h reads = by_bits (in_bits 12 imm) (imm_below imm h.2) (imm_back imm h.2)
  where
    by_bits : (v : ℕ) → v < 2 ^ 12 → signed 12 v ≡ imm → decoded (0x23 + bits v 4 0 * 2 ^ 7 + f3 * 2 ^ 12 + a * 2 ^ 15 + b * 2 ^ 20 + bits v 11 5 * 2 ^ 25) ≡ Some (make a b imm)
    by_bits v low back =
        let w = 0x23 + bits v 4 0 * 2 ^ 7 + f3 * 2 ^ 12 + a * 2 ^ 15 + b * 2 ^ 20 + bits v 11 5 * 2 ^ 25 in
        let e : bits w 11 7 + bits w 31 25 * 2 ^ 5 ≡ v = omega arith in
        read_at w 0x23 f3 (funct7_in w) (omega arith) (omega arith) refl ∙ reads (funct7_in w) w ∙ made_of make (omega arith) (omega arith) (ap (signed 12) e ∙ back)

-- the parts of an offset make it up
near_whole : (v a b c d : ℕ) → ((v < 2 ^ 13) × (v % 2 ≡ 0)) → a ≡ bits v 4 1 → b ≡ bits v 10 5 → c ≡ bits v 11 11 → d ≡ bits v 12 12 → a * 2 + b * 2 ^ 5 + c * 2 ^ 11 + d * 2 ^ 12 ≡ v
near_whole v a b c d h e1 e2 e3 e4 = omega arith

far_whole : (v a b c d : ℕ) → ((v < 2 ^ 21) × (v % 2 ≡ 0)) → a ≡ bits v 10 1 → b ≡ bits v 11 11 → c ≡ bits v 19 12 → d ≡ bits v 20 20 → a * 2 + b * 2 ^ 11 + c * 2 ^ 12 + d * 2 ^ 20 ≡ v
far_whole v a b c d h e1 e2 e3 e4 = omega arith

b_spelled : (make : ℕ → ℕ → ℤ → Instr) (f3 a b : ℕ) (imm : ℤ) → f3 < 2 ^ 3 → (IsReg a × IsReg b × IsNear imm) → ((f7 w : ℕ) → read_as 0x63 f3 f7 w ≡ Some (make (rs1_in w) (rs2_in w) (near_in w))) → decoded (b_form 0x63 f3 a b imm) ≡ Some (make a b imm)
b_spelled make f3 a b imm h2 h reads = by_bits (in_bits 13 imm) (near_below imm h.2) (near_back imm h.2)
  where
    by_bits : (v : ℕ) → ((v < 2 ^ 13) × (v % 2 ≡ 0)) → signed 13 v ≡ imm → decoded (0x63 + bits v 11 11 * 2 ^ 7 + bits v 4 1 * 2 ^ 8 + f3 * 2 ^ 12 + a * 2 ^ 15 + b * 2 ^ 20 + bits v 10 5 * 2 ^ 25 + bits v 12 12 * 2 ^ 31) ≡ Some (make a b imm)
    by_bits v low back =
        let w = 0x63 + bits v 11 11 * 2 ^ 7 + bits v 4 1 * 2 ^ 8 + f3 * 2 ^ 12 + a * 2 ^ 15 + b * 2 ^ 20 + bits v 10 5 * 2 ^ 25 + bits v 12 12 * 2 ^ 31 in
        let e1 : bits w 11 8 ≡ bits v 4 1 = omega arith in
        let e2 : bits w 30 25 ≡ bits v 10 5 = omega arith in
        let e3 : bits w 7 7 ≡ bits v 11 11 = omega arith in
        let e4 : bits w 31 31 ≡ bits v 12 12 = omega arith in
        let e : bits w 11 8 * 2 + bits w 30 25 * 2 ^ 5 + bits w 7 7 * 2 ^ 11 + bits w 31 31 * 2 ^ 12 ≡ v = near_whole v _ _ _ _ low e1 e2 e3 e4 in
        read_at w 0x63 f3 (funct7_in w) (omega arith) (omega arith) refl ∙ reads (funct7_in w) w ∙ made_of make (omega arith) (omega arith) (ap (signed 13) e ∙ back)

u_spelled : (make : ℕ → ℕ → Instr) (opcode rd upper : ℕ) → opcode < 2 ^ 7 → (IsReg rd × IsUpper upper) → ((f3 f7 w : ℕ) → read_as opcode f3 f7 w ≡ Some (make (rd_in w) (upper_in w))) → decoded (u_form opcode rd upper) ≡ Some (make rd upper)
u_spelled make opcode rd upper h1 h reads =
    let w = u_form opcode rd upper in
    read_at w opcode (funct3_in w) (funct7_in w) (omega arith) refl refl ∙ reads (funct3_in w) (funct7_in w) w ∙ made_of (λ a b (c : ℕ). make a b) {c1 = w} (omega arith) (omega arith) refl

j_spelled : (rd : ℕ) (imm : ℤ) → (IsReg rd × IsFar imm) → decoded (j_form 0x6f rd imm) ≡ Some (Jal rd imm)
j_spelled rd imm h = by_bits (in_bits 21 imm) (far_below imm h.1) (far_back imm h.1)
  where
    by_bits : (v : ℕ) → ((v < 2 ^ 21) × (v % 2 ≡ 0)) → signed 21 v ≡ imm → decoded (0x6f + rd * 2 ^ 7 + bits v 19 12 * 2 ^ 12 + bits v 11 11 * 2 ^ 20 + bits v 10 1 * 2 ^ 21 + bits v 20 20 * 2 ^ 31) ≡ Some (Jal rd imm)
    by_bits v low back =
        let w = 0x6f + rd * 2 ^ 7 + bits v 19 12 * 2 ^ 12 + bits v 11 11 * 2 ^ 20 + bits v 10 1 * 2 ^ 21 + bits v 20 20 * 2 ^ 31 in
        let e1 : bits w 30 21 ≡ bits v 10 1 = omega arith in
        let e2 : bits w 20 20 ≡ bits v 11 11 = omega arith in
        let e3 : bits w 19 12 ≡ bits v 19 12 = omega arith in
        let e4 : bits w 31 31 ≡ bits v 20 20 = omega arith in
        let e : bits w 30 21 * 2 + bits w 20 20 * 2 ^ 11 + bits w 19 12 * 2 ^ 12 + bits w 31 31 * 2 ^ 20 ≡ v = far_whole v _ _ _ _ low e1 e2 e3 e4 in
        let e5 : opcode_in w ≡ 0x6f = omega arith in
        ap (λ o. read_as o (funct3_in w) (funct7_in w) w) e5 ∙ made_of (λ a b (c : ℕ). Jal a b) {c1 = w} (omega arith) (ap (signed 21) e ∙ back) refl

-- each instruction in its ranges is read back from its word
pub spelled : (i : Instr) → IsInstr i → decoded (spelling i) ≡ Some i
spelled (Lui rd upper) h = u_spelled Lui 0x37 rd upper (omega arith) h (λ f3 f7 w. refl)
spelled (Auipc rd upper) h = u_spelled Auipc 0x17 rd upper (omega arith) h (λ f3 f7 w. refl)
spelled (Jal rd imm) h = j_spelled rd imm h
spelled (Jalr rd rs1 imm) h = i_spelled Jalr 0x67 0 rd rs1 imm (omega arith) (omega arith) h (λ f7 w. refl)
spelled (Beq rs1 rs2 imm) h = b_spelled Beq 0 rs1 rs2 imm (omega arith) h (λ f7 w. refl)
spelled (Bne rs1 rs2 imm) h = b_spelled Bne 1 rs1 rs2 imm (omega arith) h (λ f7 w. refl)
spelled (Blt rs1 rs2 imm) h = b_spelled Blt 4 rs1 rs2 imm (omega arith) h (λ f7 w. refl)
spelled (Bge rs1 rs2 imm) h = b_spelled Bge 5 rs1 rs2 imm (omega arith) h (λ f7 w. refl)
spelled (Bltu rs1 rs2 imm) h = b_spelled Bltu 6 rs1 rs2 imm (omega arith) h (λ f7 w. refl)
spelled (Bgeu rs1 rs2 imm) h = b_spelled Bgeu 7 rs1 rs2 imm (omega arith) h (λ f7 w. refl)
spelled (Lb rd rs1 imm) h = i_spelled Lb 0x03 0 rd rs1 imm (omega arith) (omega arith) h (λ f7 w. refl)
spelled (Lh rd rs1 imm) h = i_spelled Lh 0x03 1 rd rs1 imm (omega arith) (omega arith) h (λ f7 w. refl)
spelled (Lw rd rs1 imm) h = i_spelled Lw 0x03 2 rd rs1 imm (omega arith) (omega arith) h (λ f7 w. refl)
spelled (Lbu rd rs1 imm) h = i_spelled Lbu 0x03 4 rd rs1 imm (omega arith) (omega arith) h (λ f7 w. refl)
spelled (Lhu rd rs1 imm) h = i_spelled Lhu 0x03 5 rd rs1 imm (omega arith) (omega arith) h (λ f7 w. refl)
spelled (Sb rs1 rs2 imm) h = s_spelled Sb 0 rs1 rs2 imm (omega arith) h (λ f7 w. refl)
spelled (Sh rs1 rs2 imm) h = s_spelled Sh 1 rs1 rs2 imm (omega arith) h (λ f7 w. refl)
spelled (Sw rs1 rs2 imm) h = s_spelled Sw 2 rs1 rs2 imm (omega arith) h (λ f7 w. refl)
spelled (Addi rd rs1 imm) h = i_spelled Addi 0x13 0 rd rs1 imm (omega arith) (omega arith) h (λ f7 w. refl)
spelled (Slti rd rs1 imm) h = i_spelled Slti 0x13 2 rd rs1 imm (omega arith) (omega arith) h (λ f7 w. refl)
spelled (Sltiu rd rs1 imm) h = i_spelled Sltiu 0x13 3 rd rs1 imm (omega arith) (omega arith) h (λ f7 w. refl)
spelled (Xori rd rs1 imm) h = i_spelled Xori 0x13 4 rd rs1 imm (omega arith) (omega arith) h (λ f7 w. refl)
spelled (Ori rd rs1 imm) h = i_spelled Ori 0x13 6 rd rs1 imm (omega arith) (omega arith) h (λ f7 w. refl)
spelled (Andi rd rs1 imm) h = i_spelled Andi 0x13 7 rd rs1 imm (omega arith) (omega arith) h (λ f7 w. refl)
spelled (Slli rd rs1 by) h = r_spelled Slli 0x13 1 0x00 rd rs1 by (omega arith) (omega arith) (omega arith) h (λ w. refl)
spelled (Srli rd rs1 by) h = r_spelled Srli 0x13 5 0x00 rd rs1 by (omega arith) (omega arith) (omega arith) h (λ w. refl)
spelled (Srai rd rs1 by) h = r_spelled Srai 0x13 5 0x20 rd rs1 by (omega arith) (omega arith) (omega arith) h (λ w. refl)
spelled (Add rd rs1 rs2) h = r_spelled Add 0x33 0 0x00 rd rs1 rs2 (omega arith) (omega arith) (omega arith) h (λ w. refl)
spelled (Sub rd rs1 rs2) h = r_spelled Sub 0x33 0 0x20 rd rs1 rs2 (omega arith) (omega arith) (omega arith) h (λ w. refl)
spelled (Sll rd rs1 rs2) h = r_spelled Sll 0x33 1 0x00 rd rs1 rs2 (omega arith) (omega arith) (omega arith) h (λ w. refl)
spelled (Slt rd rs1 rs2) h = r_spelled Slt 0x33 2 0x00 rd rs1 rs2 (omega arith) (omega arith) (omega arith) h (λ w. refl)
spelled (Sltu rd rs1 rs2) h = r_spelled Sltu 0x33 3 0x00 rd rs1 rs2 (omega arith) (omega arith) (omega arith) h (λ w. refl)
spelled (Xor rd rs1 rs2) h = r_spelled Xor 0x33 4 0x00 rd rs1 rs2 (omega arith) (omega arith) (omega arith) h (λ w. refl)
spelled (Srl rd rs1 rs2) h = r_spelled Srl 0x33 5 0x00 rd rs1 rs2 (omega arith) (omega arith) (omega arith) h (λ w. refl)
spelled (Sra rd rs1 rs2) h = r_spelled Sra 0x33 5 0x20 rd rs1 rs2 (omega arith) (omega arith) (omega arith) h (λ w. refl)
spelled (Or rd rs1 rs2) h = r_spelled Or 0x33 6 0x00 rd rs1 rs2 (omega arith) (omega arith) (omega arith) h (λ w. refl)
spelled (And rd rs1 rs2) h = r_spelled And 0x33 7 0x00 rd rs1 rs2 (omega arith) (omega arith) (omega arith) h (λ w. refl)
spelled (Mul rd rs1 rs2) h = r_spelled Mul 0x33 0 0x01 rd rs1 rs2 (omega arith) (omega arith) (omega arith) h (λ w. refl)
spelled (Mulh rd rs1 rs2) h = r_spelled Mulh 0x33 1 0x01 rd rs1 rs2 (omega arith) (omega arith) (omega arith) h (λ w. refl)
spelled (Mulhsu rd rs1 rs2) h = r_spelled Mulhsu 0x33 2 0x01 rd rs1 rs2 (omega arith) (omega arith) (omega arith) h (λ w. refl)
spelled (Mulhu rd rs1 rs2) h = r_spelled Mulhu 0x33 3 0x01 rd rs1 rs2 (omega arith) (omega arith) (omega arith) h (λ w. refl)
spelled (Div rd rs1 rs2) h = r_spelled Div 0x33 4 0x01 rd rs1 rs2 (omega arith) (omega arith) (omega arith) h (λ w. refl)
spelled (Divu rd rs1 rs2) h = r_spelled Divu 0x33 5 0x01 rd rs1 rs2 (omega arith) (omega arith) (omega arith) h (λ w. refl)
spelled (Rem rd rs1 rs2) h = r_spelled Rem 0x33 6 0x01 rd rs1 rs2 (omega arith) (omega arith) (omega arith) h (λ w. refl)
spelled (Remu rd rs1 rs2) h = r_spelled Remu 0x33 7 0x01 rd rs1 rs2 (omega arith) (omega arith) (omega arith) h (λ w. refl)
spelled (Fence rd rs1 imm) h = i_spelled Fence 0x0f 0 rd rs1 imm (omega arith) (omega arith) h (λ f7 w. refl)
spelled Ecall h = refl
spelled Ebreak h = refl
