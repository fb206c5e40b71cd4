-- An instruction as text: its mnemonic, and where it has operands, a space and these, by its form.
use Rattle.std.specs.Prelude.{ℕ, ℤ, false, List, ◌++◌, codes, decimal}
use Rattle.std.specs.Fmt.{digits, signed_decimal}
use Rattle.rv_isa.specs.declared.instr.Instr.{Instr}
use Rattle.rv_text.specs.Names.{upper_name, branch_name, address_name, store_name, shift_name, number_name, registers_name, bare_name}
use Rattle.rv_text.specs.Forms.{form_of}
use Rattle.rv_text.specs.declared.form.Form.{Form}
use Rattle.rv_text.specs.declared.form.Form.TheVariants as form
use Rattle.rv_text.specs.declared.text.Style.{Style}
use Rattle.rv_text.specs.declared.text.Style.TheVariants.{Dump, Source}

-- a register by its number
abbrev pub register : ℕ → List ℕ
register n = codes "x" ++ decimal n

-- what stands between two operands
abbrev pub comma : Style → List ℕ
comma Dump = codes ","
comma Source = codes ", "

-- a number without a sign: in a dump in hexadecimal
abbrev pub plain : Style → ℕ → List ℕ
plain Dump n = codes "0x" ++ digits 16 false n
plain Source n = decimal n

-- a number in front of the register to which it is added
abbrev pub address : (rs1 : ℕ) (imm : ℤ) → List ℕ
address rs1 imm = signed_decimal imm ++ codes "(" ++ register rs1 ++ codes ")"

abbrev pub two : Style → (mnemonic first second : List ℕ) → List ℕ
two s mnemonic first second = mnemonic ++ codes " " ++ first ++ comma s ++ second

abbrev pub three : Style → (mnemonic first second third : List ℕ) → List ℕ
three s mnemonic first second third = mnemonic ++ codes " " ++ first ++ comma s ++ second ++ comma s ++ third

-- the text of each form
abbrev pub form_text : Style → Form → List ℕ
form_text s (form.Upper name rd imm) = two s (upper_name name) (register rd) (plain s imm)
form_text s (form.Jump rd imm) = two s (codes "jal") (register rd) (signed_decimal imm)
form_text s (form.Branch name rs1 rs2 imm) = three s (branch_name name) (register rs1) (register rs2) (signed_decimal imm)
form_text s (form.Address name rd rs1 imm) = two s (address_name name) (register rd) (address rs1 imm)
form_text s (form.Store name rs1 rs2 imm) = two s (store_name name) (register rs2) (address rs1 imm)
form_text s (form.Shift name rd rs1 by) = three s (shift_name name) (register rd) (register rs1) (plain s by)
form_text s (form.Number name rd rs1 imm) = three s (number_name name) (register rd) (register rs1) (signed_decimal imm)
form_text s (form.Registers name rd rs1 rs2) = three s (registers_name name) (register rd) (register rs1) (register rs2)
form_text s (form.Bare name) = bare_name name

abbrev pub text_of : Style → Instr → List ℕ
text_of s i = form_text s (form_of i)
