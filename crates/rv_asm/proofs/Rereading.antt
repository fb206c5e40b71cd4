-- Printed lines are read back: each form in its ranges.
use Rattle.std.proofs.Common.{◌≡◌, ℕ, ℤ, suc, ◌+◌, ◌%◌, ◌<◌, ◌≤◌, ◌^◌, true, List, [], ◌∷◌, length, refl, ap, ◌∙◌, arith, Option, Some}
use Rattle.std.specs.Prelude.{codes, decimal, pos, negsuc, option_map, Ok}
use Rattle.std.specs.Fmt.{signed_decimal}
use Rattle.std.proofs.lemmas.Bool.{le-leb, eq-eqb}
use Rattle.std.proofs.lemmas.Int.{ints}
use Rattle.std.proofs.lemmas.Fmt.{length-decimal-le, length_signed_le}
use Rattle.std.proofs.lemmas.List.{length-append}
use lib.Signed.{mag}
use Rattle.rv_isa.specs.Ranges.{IsReg, IsImm, IsUpper, IsNear, IsFar}
use Rattle.rv_isa.specs.Spelling.{IsInstr}
use Rattle.rv_isa.specs.declared.instr.Instr.{Instr}
use Rattle.rv_isa.specs.declared.instr.Instr.TheVariants as instr
use Rattle.rv_text.specs.Names.{upper_name, branch_name, address_name, store_name, shift_name, number_name, registers_name, bare_name}
use Rattle.rv_text.specs.Forms.{form_of, instr_of}
use Rattle.rv_text.specs.Texts.{register, address, two, three, form_text}
use Rattle.rv_text.specs.declared.form.Form.{Form}
use Rattle.rv_text.specs.declared.form.Form.TheVariants as form
use Rattle.rv_text.specs.declared.text.Style.TheVariants.{Source}
use Rattle.rv_asm.specs.Numbers.{of_both}
use Rattle.rv_asm.specs.Words.{words_of}
use Rattle.rv_asm.specs.Forms.{mnemonic_in, written_in, of_three, line_with, line_by, line_in}
use Rattle.rv_asm.specs.Coding.{Labels, is_even, unsigned_of, imm_of, near_of, far_of, on_value, coded}
use Rattle.rv_asm.specs.declared.mnemonic.Mnemonic.{Mnemonic}
use Rattle.rv_asm.specs.declared.mnemonic.Mnemonic.TheVariants as m
use Rattle.rv_asm.specs.declared.written.Target.TheVariants.{Offset}
use Rattle.rv_asm.specs.declared.written.Written.{Written}
use Rattle.rv_asm.specs.declared.written.Written.TheVariants as w
use Rattle.rv_asm.specs.declared.written.Line.TheVariants as line
use Rattle.rv_asm.proofs.Lining.{HasNoEnd}
use Rattle.rv_asm.proofs.Plain.{one_word, two_words, three_words, decimal_word, signed_word, register_word, address_word}
use Rattle.rv_asm.proofs.ReadBack.{register_back, number_back, signed_back, target_back, address_back}
use Rattle.rv_asm.proofs.Mnemonics.{upper_names, branch_names, address_names, store_names, shift_names, number_names, registers_names, bare_names}

-- the form's numbers are in their ranges
abbrev pub HasRanges : Form → Type 0
HasRanges (form.Upper name rd imm) = IsReg rd × IsUpper imm
HasRanges (form.Jump rd imm) = IsReg rd × IsFar imm
HasRanges (form.Branch name rs1 rs2 imm) = IsReg rs1 × IsReg rs2 × IsNear imm
HasRanges (form.Address name rd rs1 imm) = IsReg rd × IsReg rs1 × IsImm imm
HasRanges (form.Store name rs1 rs2 imm) = IsReg rs1 × IsReg rs2 × IsImm imm
HasRanges (form.Shift name rd rs1 by) = IsReg rd × IsReg rs1 × IsReg by
HasRanges (form.Number name rd rs1 imm) = IsReg rd × IsReg rs1 × IsImm imm
HasRanges (form.Registers name rd rs1 rs2) = IsReg rd × IsReg rs1 × IsReg rs2
HasRanges (form.Bare name) = Unit {0}

-- an instruction in its ranges has a form in its ranges, and is the instruction of its form
pub of_form : (i : Instr) → IsInstr i → HasRanges (form_of i) × (instr_of (form_of i) ≡ i)
of_form (instr.Lui a b) h = (h, refl)
of_form (instr.Auipc a b) h = (h, refl)
of_form (instr.Jal a b) h = (h, refl)
of_form (instr.Jalr a b c) h = (h, refl)
of_form (instr.Beq a b c) h = (h, refl)
of_form (instr.Bne a b c) h = (h, refl)
of_form (instr.Blt a b c) h = (h, refl)
of_form (instr.Bge a b c) h = (h, refl)
of_form (instr.Bltu a b c) h = (h, refl)
of_form (instr.Bgeu a b c) h = (h, refl)
of_form (instr.Lb a b c) h = (h, refl)
of_form (instr.Lh a b c) h = (h, refl)
of_form (instr.Lw a b c) h = (h, refl)
of_form (instr.Lbu a b c) h = (h, refl)
of_form (instr.Lhu a b c) h = (h, refl)
of_form (instr.Sb a b c) h = (h, refl)
of_form (instr.Sh a b c) h = (h, refl)
of_form (instr.Sw a b c) h = (h, refl)
of_form (instr.Addi a b c) h = (h, refl)
of_form (instr.Slti a b c) h = (h, refl)
of_form (instr.Sltiu a b c) h = (h, refl)
of_form (instr.Xori a b c) h = (h, refl)
of_form (instr.Ori a b c) h = (h, refl)
of_form (instr.Andi a b c) h = (h, refl)
of_form (instr.Slli a b c) h = (h, refl)
of_form (instr.Srli a b c) h = (h, refl)
of_form (instr.Srai a b c) h = (h, refl)
of_form (instr.Add a b c) h = (h, refl)
of_form (instr.Sub a b c) h = (h, refl)
of_form (instr.Sll a b c) h = (h, refl)
of_form (instr.Slt a b c) h = (h, refl)
of_form (instr.Sltu a b c) h = (h, refl)
of_form (instr.Xor a b c) h = (h, refl)
of_form (instr.Srl a b c) h = (h, refl)
of_form (instr.Sra a b c) h = (h, refl)
of_form (instr.Or a b c) h = (h, refl)
of_form (instr.And a b c) h = (h, refl)
of_form (instr.Mul a b c) h = (h, refl)
of_form (instr.Mulh a b c) h = (h, refl)
of_form (instr.Mulhsu a b c) h = (h, refl)
of_form (instr.Mulhu a b c) h = (h, refl)
of_form (instr.Div a b c) h = (h, refl)
of_form (instr.Divu a b c) h = (h, refl)
of_form (instr.Rem a b c) h = (h, refl)
of_form (instr.Remu a b c) h = (h, refl)
of_form (instr.Fence a b c) h = (h, refl)
of_form instr.Ecall h = (h, refl)
of_form instr.Ebreak h = (h, refl)

-- how a form is written
abbrev pub written_as : Form → Written
written_as (form.Upper name rd imm) = w.Upper name rd (pos imm)
written_as (form.Jump rd imm) = w.Jump rd (Offset imm)
written_as (form.Branch name rs1 rs2 imm) = w.Branch name rs1 rs2 (Offset imm)
written_as (form.Address name rd rs1 imm) = w.Address name rd rs1 imm
written_as (form.Store name rs1 rs2 imm) = w.Store name rs1 rs2 imm
written_as (form.Shift name rd rs1 by) = w.Shift name rd rs1 (pos by)
written_as (form.Number name rd rs1 imm) = w.Number name rd rs1 imm
written_as (form.Registers name rd rs1 rs2) = w.Registers name rd rs1 rs2
written_as (form.Bare name) = w.Bare name

-- ---- how large the numbers are

imm_small : (z : ℤ) → IsImm z → mag z + 1 < 10 ^ 4
imm_small (pos n) h = let k = h.high in omega (arith, ints)
imm_small (negsuc n) h = let k = h.low in omega (arith, ints)

near_small : (z : ℤ) → IsNear z → mag z + 1 < 10 ^ 4
near_small (pos n) h = let k = h.high in omega (arith, ints)
near_small (negsuc n) h = let k = h.low in omega (arith, ints)

far_small : (z : ℤ) → IsFar z → mag z + 1 < 10 ^ 7
far_small (pos n) h = let k = h.high in omega (arith, ints)
far_small (negsuc n) h = let k = h.low in omega (arith, ints)

-- ---- numbers in their ranges are taken

unsigned_taken : (high n : ℕ) → n ≤ high → unsigned_of high (pos n) ≡ Ok n
unsigned_taken high n h = rw (le-leb 0 n (omega arith)) (rw (le-leb n high h) refl)

imm_taken : (z : ℤ) → IsImm z → imm_of z ≡ Ok z
imm_taken (pos n) h = let k : n ≤ 2047 = omega (arith, ints, h.high) in rw (le-leb n 2047 k) refl
imm_taken (negsuc n) h = let k : n ≤ 2047 = omega (arith, ints, h.low) in rw (le-leb n 2047 k) refl

even_pos : (n : ℕ) → n % 2 ≡ 0 → is_even (pos n) ≡ true
even_pos n h = eq-eqb (n % 2) 0 h

even_negsuc : (n : ℕ) → n % 2 ≡ 1 → is_even (negsuc n) ≡ true
even_negsuc n h = eq-eqb (suc n % 2) 0 (omega (arith, h))

near_taken : (z : ℤ) → IsNear z → near_of z ≡ Ok z
near_taken (pos n) h = let k : n ≤ 4094 = omega (arith, ints, h.high) in rw (le-leb n 4094 k) (rw (even_pos n h.even) refl)
near_taken (negsuc n) h = let k : n ≤ 4095 = omega (arith, ints, h.low) in rw (le-leb n 4095 k) (rw (even_negsuc n h.even) refl)

far_taken : (z : ℤ) → IsFar z → far_of z ≡ Ok z
far_taken (pos n) h = let k : n ≤ 1048574 = omega (arith, ints, h.high) in rw (le-leb n 1048574 k) (rw (even_pos n h.even) refl)
far_taken (negsuc n) h = let k : n ≤ 1048575 = omega (arith, ints, h.low) in rw (le-leb n 1048575 k) (rw (even_negsuc n h.even) refl)

-- what is written so is that form
pub coded_back : (labels : Labels) (here : ℕ) (f : Form) → HasRanges f → coded labels here (written_as f) ≡ Ok f
coded_back labels here (form.Upper name rd imm) h = ap (λ o. on_value o (λ imm. Ok (form.Upper name rd imm))) (unsigned_taken 1048575 imm h.1)
coded_back labels here (form.Jump rd imm) h = ap (λ o. on_value o (λ imm. Ok (form.Jump rd imm))) (far_taken imm h.1)
coded_back labels here (form.Branch name rs1 rs2 imm) h = ap (λ o. on_value o (λ imm. Ok (form.Branch name rs1 rs2 imm))) (near_taken imm h.2)
coded_back labels here (form.Address name rd rs1 imm) h = ap (λ o. on_value o (λ imm. Ok (form.Address name rd rs1 imm))) (imm_taken imm h.2)
coded_back labels here (form.Store name rs1 rs2 imm) h = ap (λ o. on_value o (λ imm. Ok (form.Store name rs1 rs2 imm))) (imm_taken imm h.2)
coded_back labels here (form.Shift name rd rs1 by) h = ap (λ o. on_value o (λ by. Ok (form.Shift name rd rs1 by))) (unsigned_taken 31 by h.2)
coded_back labels here (form.Number name rd rs1 imm) h = ap (λ o. on_value o (λ imm. Ok (form.Number name rd rs1 imm))) (imm_taken imm h.2)
coded_back labels here (form.Registers name rd rs1 rs2) h = refl
coded_back labels here (form.Bare name) h = refl

-- ---- lines

-- what is known of a printed line without its line end
pub record Reads (text : List ℕ) (f : Form) : Type 0 where
  pub back : line_in text ≡ Some (line.Instruction (written_as f))
  pub ends : HasNoEnd text
  pub short : length text ≤ 21

-- by its words
by_words : (text m : List ℕ) (words : List (List ℕ)) (mnemonic : Mnemonic) (written : Written) → words_of text ≡ m ∷ words → mnemonic_in m ≡ Some mnemonic → written_in mnemonic words ≡ Some written → line_in text ≡ Some (line.Instruction written)
by_words text m words mnemonic written e n r = ap line_by e ∙ ap (λ o. line_with o m words) n ∙ ap (option_map line.Instruction) r

both_there : {A B C : Type 0} (make : A → B → C) (o : Option A) (p : Option B) (x : A) (y : B) → o ≡ Some x → p ≡ Some y → of_both make o p ≡ Some (make x y)
both_there make o p x y e q = rw e (rw q refl)

three_there : {A B C D : Type 0} (make : A → B → C → D) (o : Option A) (p : Option B) (q : Option C) (x : A) (y : B) (z : C) → o ≡ Some x → p ≡ Some y → q ≡ Some z → of_three make o p q ≡ Some (make x y z)
three_there make o p q x y z e f g = rw e (rw f (rw g refl))

length_two : (m a b : List ℕ) → length (two Source m a b) ≡ length m + length a + length b + 3
length_two m a b = simp length-append (omega arith)

length_three : (m a b c : List ℕ) → length (three Source m a b c) ≡ length m + length a + length b + length c + 5
length_three m a b c = simp length-append (omega arith)

register_short : (n : ℕ) → n ≤ 31 → length (register n) ≤ 3
register_short n h = let k = length-decimal-le 2 n (omega arith) (omega (arith, h)) (omega (arith, h)) in omega (arith, k)

address_short : (rs1 : ℕ) (z : ℤ) → rs1 ≤ 31 → IsImm z → length (address rs1 z) ≤ 10
address_short rs1 z h k =
    let a = register_short rs1 h in
    let b = length_signed_le 4 z (imm_small z k) (omega (arith, imm_small z k)) in
    simp length-append (omega (arith, a, b))

pub reads : (f : Form) → HasRanges f → Reads (form_text Source f) f
reads (form.Upper name rd imm) h =
    let n = upper_names name in
    let lines = two_words (upper_name name) (register rd) (decimal imm) n.word (register_word rd h.0) (decimal_word imm (omega (arith, h.1))) in
    record {
      back = by_words (two Source (upper_name name) (register rd) (decimal imm)) (upper_name name) _ (m.Upper name) (w.Upper name rd (pos imm)) lines.0 n.back (both_there (w.Upper name) _ _ rd (pos imm) (register_back rd h.0) (number_back imm (omega (arith, h.1))));
      ends = lines.1;
      short = omega (arith, length_two (upper_name name) (register rd) (decimal imm), n.short, register_short rd h.0, length-decimal-le 7 imm (omega arith) (omega (arith, h.1)) (omega (arith, h.1)));
    }
reads (form.Jump rd imm) h =
    let lines = two_words (codes "jal") (register rd) (signed_decimal imm) (record { plain = refl; some = omega arith }) (register_word rd h.0) (signed_word imm (omega (arith, far_small imm h.1))) in
    record {
      back = by_words (two Source (codes "jal") (register rd) (signed_decimal imm)) (codes "jal") _ m.Jump (w.Jump rd (Offset imm)) lines.0 refl (both_there w.Jump _ _ rd (Offset imm) (register_back rd h.0) (target_back imm (omega (arith, far_small imm h.1))));
      ends = lines.1;
      short = omega (arith, length_two (codes "jal") (register rd) (signed_decimal imm), register_short rd h.0, length_signed_le 7 imm (far_small imm h.1) (omega (arith, far_small imm h.1)));
    }
reads (form.Branch name rs1 rs2 imm) h =
    let n = branch_names name in
    let lines = three_words (branch_name name) (register rs1) (register rs2) (signed_decimal imm) n.word (register_word rs1 h.0) (register_word rs2 h.1) (signed_word imm (omega (arith, near_small imm h.2))) in
    record {
      back = by_words (three Source (branch_name name) (register rs1) (register rs2) (signed_decimal imm)) (branch_name name) _ (m.Branch name) (w.Branch name rs1 rs2 (Offset imm)) lines.0 n.back (three_there (w.Branch name) _ _ _ rs1 rs2 (Offset imm) (register_back rs1 h.0) (register_back rs2 h.1) (target_back imm (omega (arith, near_small imm h.2))));
      ends = lines.1;
      short = omega (arith, length_three (branch_name name) (register rs1) (register rs2) (signed_decimal imm), n.short, register_short rs1 h.0, register_short rs2 h.1, length_signed_le 4 imm (near_small imm h.2) (omega (arith, near_small imm h.2)));
    }
reads (form.Address name rd rs1 imm) h =
    let n = address_names name in
    let lines = two_words (address_name name) (register rd) (address rs1 imm) n.word (register_word rd h.0) (address_word rs1 imm h.1 (omega (arith, imm_small imm h.2))) in
    record {
      back = by_words (two Source (address_name name) (register rd) (address rs1 imm)) (address_name name) _ (m.Address name) (w.Address name rd rs1 imm) lines.0 n.back (both_there (λ rd at. w.Address name rd at.1 at.0) _ _ rd (imm, rs1) (register_back rd h.0) (address_back rs1 imm h.1 (omega (arith, imm_small imm h.2))));
      ends = lines.1;
      short = omega (arith, length_two (address_name name) (register rd) (address rs1 imm), n.short, register_short rd h.0, address_short rs1 imm h.1 h.2);
    }
reads (form.Store name rs1 rs2 imm) h =
    let n = store_names name in
    let lines = two_words (store_name name) (register rs2) (address rs1 imm) n.word (register_word rs2 h.1) (address_word rs1 imm h.0 (omega (arith, imm_small imm h.2))) in
    record {
      back = by_words (two Source (store_name name) (register rs2) (address rs1 imm)) (store_name name) _ (m.Store name) (w.Store name rs1 rs2 imm) lines.0 n.back (both_there (λ rs2 at. w.Store name at.1 rs2 at.0) _ _ rs2 (imm, rs1) (register_back rs2 h.1) (address_back rs1 imm h.0 (omega (arith, imm_small imm h.2))));
      ends = lines.1;
      short = omega (arith, length_two (store_name name) (register rs2) (address rs1 imm), n.short, register_short rs2 h.1, address_short rs1 imm h.0 h.2);
    }
reads (form.Shift name rd rs1 by) h =
    let n = shift_names name in
    let lines = three_words (shift_name name) (register rd) (register rs1) (decimal by) n.word (register_word rd h.0) (register_word rs1 h.1) (decimal_word by (omega (arith, h.2))) in
    record {
      back = by_words (three Source (shift_name name) (register rd) (register rs1) (decimal by)) (shift_name name) _ (m.Shift name) (w.Shift name rd rs1 (pos by)) lines.0 n.back (three_there (w.Shift name) _ _ _ rd rs1 (pos by) (register_back rd h.0) (register_back rs1 h.1) (number_back by (omega (arith, h.2))));
      ends = lines.1;
      short = omega (arith, length_three (shift_name name) (register rd) (register rs1) (decimal by), n.short, register_short rd h.0, register_short rs1 h.1, length-decimal-le 2 by (omega arith) (omega (arith, h.2)) (omega (arith, h.2)));
    }
reads (form.Number name rd rs1 imm) h =
    let n = number_names name in
    let lines = three_words (number_name name) (register rd) (register rs1) (signed_decimal imm) n.word (register_word rd h.0) (register_word rs1 h.1) (signed_word imm (omega (arith, imm_small imm h.2))) in
    record {
      back = by_words (three Source (number_name name) (register rd) (register rs1) (signed_decimal imm)) (number_name name) _ (m.Number name) (w.Number name rd rs1 imm) lines.0 n.back (three_there (w.Number name) _ _ _ rd rs1 imm (register_back rd h.0) (register_back rs1 h.1) (signed_back imm (omega (arith, imm_small imm h.2))));
      ends = lines.1;
      short = omega (arith, length_three (number_name name) (register rd) (register rs1) (signed_decimal imm), n.short, register_short rd h.0, register_short rs1 h.1, length_signed_le 4 imm (imm_small imm h.2) (omega (arith, imm_small imm h.2)));
    }
reads (form.Registers name rd rs1 rs2) h =
    let n = registers_names name in
    let lines = three_words (registers_name name) (register rd) (register rs1) (register rs2) n.word (register_word rd h.0) (register_word rs1 h.1) (register_word rs2 h.2) in
    record {
      back = by_words (three Source (registers_name name) (register rd) (register rs1) (register rs2)) (registers_name name) _ (m.Registers name) (w.Registers name rd rs1 rs2) lines.0 n.back (three_there (w.Registers name) _ _ _ rd rs1 rs2 (register_back rd h.0) (register_back rs1 h.1) (register_back rs2 h.2));
      ends = lines.1;
      short = omega (arith, length_three (registers_name name) (register rd) (register rs1) (register rs2), n.short, register_short rd h.0, register_short rs1 h.1, register_short rs2 h.2);
    }
reads (form.Bare name) h =
    let n = bare_names name in
    let lines = one_word (bare_name name) n.word in
    record {
      back = by_words (bare_name name) (bare_name name) [] (m.Bare name) (w.Bare name) lines.0 n.back refl;
      ends = lines.1;
      short = omega (arith, n.short);
    }
