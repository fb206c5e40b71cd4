-- An instruction as its mnemonic and its operands, and back.
use Rattle.std.specs.Prelude.{ℕ, ℤ}
use Rattle.rv_isa.specs.declared.instr.Instr.{Instr}
use Rattle.rv_isa.specs.declared.instr.Instr.TheVariants as instr
use Rattle.rv_text.specs.declared.names.UpperName.{UpperName}
use Rattle.rv_text.specs.declared.names.UpperName.TheVariants as upper
use Rattle.rv_text.specs.declared.names.BranchName.{BranchName}
use Rattle.rv_text.specs.declared.names.BranchName.TheVariants as branch
use Rattle.rv_text.specs.declared.names.AddressName.{AddressName}
use Rattle.rv_text.specs.declared.names.AddressName.TheVariants as address
use Rattle.rv_text.specs.declared.names.StoreName.{StoreName}
use Rattle.rv_text.specs.declared.names.StoreName.TheVariants as store
use Rattle.rv_text.specs.declared.names.ShiftName.{ShiftName}
use Rattle.rv_text.specs.declared.names.ShiftName.TheVariants as shift
use Rattle.rv_text.specs.declared.names.NumberName.{NumberName}
use Rattle.rv_text.specs.declared.names.NumberName.TheVariants as number
use Rattle.rv_text.specs.declared.names.RegistersName.{RegistersName}
use Rattle.rv_text.specs.declared.names.RegistersName.TheVariants as registers
use Rattle.rv_text.specs.declared.names.BareName.{BareName}
use Rattle.rv_text.specs.declared.names.BareName.TheVariants as bare
use Rattle.rv_text.specs.declared.form.Form.{Form}
use Rattle.rv_text.specs.declared.form.Form.TheVariants as form

abbrev pub form_of : Instr → Form
form_of (instr.Lui rd imm) = form.Upper upper.Lui rd imm
form_of (instr.Auipc rd imm) = form.Upper upper.Auipc rd imm
form_of (instr.Jal rd imm) = form.Jump rd imm
form_of (instr.Jalr rd rs1 imm) = form.Address address.Jalr rd rs1 imm
form_of (instr.Beq rs1 rs2 imm) = form.Branch branch.Beq rs1 rs2 imm
form_of (instr.Bne rs1 rs2 imm) = form.Branch branch.Bne rs1 rs2 imm
form_of (instr.Blt rs1 rs2 imm) = form.Branch branch.Blt rs1 rs2 imm
form_of (instr.Bge rs1 rs2 imm) = form.Branch branch.Bge rs1 rs2 imm
form_of (instr.Bltu rs1 rs2 imm) = form.Branch branch.Bltu rs1 rs2 imm
form_of (instr.Bgeu rs1 rs2 imm) = form.Branch branch.Bgeu rs1 rs2 imm
form_of (instr.Lb rd rs1 imm) = form.Address address.Lb rd rs1 imm
form_of (instr.Lh rd rs1 imm) = form.Address address.Lh rd rs1 imm
form_of (instr.Lw rd rs1 imm) = form.Address address.Lw rd rs1 imm
form_of (instr.Lbu rd rs1 imm) = form.Address address.Lbu rd rs1 imm
form_of (instr.Lhu rd rs1 imm) = form.Address address.Lhu rd rs1 imm
form_of (instr.Sb rs1 rs2 imm) = form.Store store.Sb rs1 rs2 imm
form_of (instr.Sh rs1 rs2 imm) = form.Store store.Sh rs1 rs2 imm
form_of (instr.Sw rs1 rs2 imm) = form.Store store.Sw rs1 rs2 imm
form_of (instr.Addi rd rs1 imm) = form.Number number.Addi rd rs1 imm
form_of (instr.Slti rd rs1 imm) = form.Number number.Slti rd rs1 imm
form_of (instr.Sltiu rd rs1 imm) = form.Number number.Sltiu rd rs1 imm
form_of (instr.Xori rd rs1 imm) = form.Number number.Xori rd rs1 imm
form_of (instr.Ori rd rs1 imm) = form.Number number.Ori rd rs1 imm
form_of (instr.Andi rd rs1 imm) = form.Number number.Andi rd rs1 imm
form_of (instr.Slli rd rs1 by) = form.Shift shift.Slli rd rs1 by
form_of (instr.Srli rd rs1 by) = form.Shift shift.Srli rd rs1 by
form_of (instr.Srai rd rs1 by) = form.Shift shift.Srai rd rs1 by
form_of (instr.Add rd rs1 rs2) = form.Registers registers.Add rd rs1 rs2
form_of (instr.Sub rd rs1 rs2) = form.Registers registers.Sub rd rs1 rs2
form_of (instr.Sll rd rs1 rs2) = form.Registers registers.Sll rd rs1 rs2
form_of (instr.Slt rd rs1 rs2) = form.Registers registers.Slt rd rs1 rs2
form_of (instr.Sltu rd rs1 rs2) = form.Registers registers.Sltu rd rs1 rs2
form_of (instr.Xor rd rs1 rs2) = form.Registers registers.Xor rd rs1 rs2
form_of (instr.Srl rd rs1 rs2) = form.Registers registers.Srl rd rs1 rs2
form_of (instr.Sra rd rs1 rs2) = form.Registers registers.Sra rd rs1 rs2
form_of (instr.Or rd rs1 rs2) = form.Registers registers.Or rd rs1 rs2
form_of (instr.And rd rs1 rs2) = form.Registers registers.And rd rs1 rs2
form_of (instr.Mul rd rs1 rs2) = form.Registers registers.Mul rd rs1 rs2
form_of (instr.Mulh rd rs1 rs2) = form.Registers registers.Mulh rd rs1 rs2
form_of (instr.Mulhsu rd rs1 rs2) = form.Registers registers.Mulhsu rd rs1 rs2
form_of (instr.Mulhu rd rs1 rs2) = form.Registers registers.Mulhu rd rs1 rs2
form_of (instr.Div rd rs1 rs2) = form.Registers registers.Div rd rs1 rs2
form_of (instr.Divu rd rs1 rs2) = form.Registers registers.Divu rd rs1 rs2
form_of (instr.Rem rd rs1 rs2) = form.Registers registers.Rem rd rs1 rs2
form_of (instr.Remu rd rs1 rs2) = form.Registers registers.Remu rd rs1 rs2
form_of (instr.Fence rd rs1 imm) = form.Number number.Fence rd rs1 imm
form_of instr.Ecall = form.Bare bare.Ecall
form_of instr.Ebreak = form.Bare bare.Ebreak

abbrev pub upper_instr : UpperName → ℕ → ℕ → Instr
upper_instr upper.Lui rd imm = instr.Lui rd imm
upper_instr upper.Auipc rd imm = instr.Auipc rd imm

abbrev pub branch_instr : BranchName → ℕ → ℕ → ℤ → Instr
branch_instr branch.Beq rs1 rs2 imm = instr.Beq rs1 rs2 imm
branch_instr branch.Bne rs1 rs2 imm = instr.Bne rs1 rs2 imm
branch_instr branch.Blt rs1 rs2 imm = instr.Blt rs1 rs2 imm
branch_instr branch.Bge rs1 rs2 imm = instr.Bge rs1 rs2 imm
branch_instr branch.Bltu rs1 rs2 imm = instr.Bltu rs1 rs2 imm
branch_instr branch.Bgeu rs1 rs2 imm = instr.Bgeu rs1 rs2 imm

abbrev pub address_instr : AddressName → ℕ → ℕ → ℤ → Instr
address_instr address.Jalr rd rs1 imm = instr.Jalr rd rs1 imm
address_instr address.Lb rd rs1 imm = instr.Lb rd rs1 imm
address_instr address.Lh rd rs1 imm = instr.Lh rd rs1 imm
address_instr address.Lw rd rs1 imm = instr.Lw rd rs1 imm
address_instr address.Lbu rd rs1 imm = instr.Lbu rd rs1 imm
address_instr address.Lhu rd rs1 imm = instr.Lhu rd rs1 imm

abbrev pub store_instr : StoreName → ℕ → ℕ → ℤ → Instr
store_instr store.Sb rs1 rs2 imm = instr.Sb rs1 rs2 imm
store_instr store.Sh rs1 rs2 imm = instr.Sh rs1 rs2 imm
store_instr store.Sw rs1 rs2 imm = instr.Sw rs1 rs2 imm

abbrev pub shift_instr : ShiftName → ℕ → ℕ → ℕ → Instr
shift_instr shift.Slli rd rs1 by = instr.Slli rd rs1 by
shift_instr shift.Srli rd rs1 by = instr.Srli rd rs1 by
shift_instr shift.Srai rd rs1 by = instr.Srai rd rs1 by

abbrev pub number_instr : NumberName → ℕ → ℕ → ℤ → Instr
number_instr number.Addi rd rs1 imm = instr.Addi rd rs1 imm
number_instr number.Slti rd rs1 imm = instr.Slti rd rs1 imm
number_instr number.Sltiu rd rs1 imm = instr.Sltiu rd rs1 imm
number_instr number.Xori rd rs1 imm = instr.Xori rd rs1 imm
number_instr number.Ori rd rs1 imm = instr.Ori rd rs1 imm
number_instr number.Andi rd rs1 imm = instr.Andi rd rs1 imm
number_instr number.Fence rd rs1 imm = instr.Fence rd rs1 imm

abbrev pub registers_instr : RegistersName → ℕ → ℕ → ℕ → Instr
registers_instr registers.Add rd rs1 rs2 = instr.Add rd rs1 rs2
registers_instr registers.Sub rd rs1 rs2 = instr.Sub rd rs1 rs2
registers_instr registers.Sll rd rs1 rs2 = instr.Sll rd rs1 rs2
registers_instr registers.Slt rd rs1 rs2 = instr.Slt rd rs1 rs2
registers_instr registers.Sltu rd rs1 rs2 = instr.Sltu rd rs1 rs2
registers_instr registers.Xor rd rs1 rs2 = instr.Xor rd rs1 rs2
registers_instr registers.Srl rd rs1 rs2 = instr.Srl rd rs1 rs2
registers_instr registers.Sra rd rs1 rs2 = instr.Sra rd rs1 rs2
registers_instr registers.Or rd rs1 rs2 = instr.Or rd rs1 rs2
registers_instr registers.And rd rs1 rs2 = instr.And rd rs1 rs2
registers_instr registers.Mul rd rs1 rs2 = instr.Mul rd rs1 rs2
registers_instr registers.Mulh rd rs1 rs2 = instr.Mulh rd rs1 rs2
registers_instr registers.Mulhsu rd rs1 rs2 = instr.Mulhsu rd rs1 rs2
registers_instr registers.Mulhu rd rs1 rs2 = instr.Mulhu rd rs1 rs2
registers_instr registers.Div rd rs1 rs2 = instr.Div rd rs1 rs2
registers_instr registers.Divu rd rs1 rs2 = instr.Divu rd rs1 rs2
registers_instr registers.Rem rd rs1 rs2 = instr.Rem rd rs1 rs2
registers_instr registers.Remu rd rs1 rs2 = instr.Remu rd rs1 rs2

abbrev pub bare_instr : BareName → Instr
bare_instr bare.Ecall = instr.Ecall
bare_instr bare.Ebreak = instr.Ebreak

abbrev pub instr_of : Form → Instr
instr_of (form.Upper name rd imm) = upper_instr name rd imm
instr_of (form.Jump rd imm) = instr.Jal rd imm
instr_of (form.Branch name rs1 rs2 imm) = branch_instr name rs1 rs2 imm
instr_of (form.Address name rd rs1 imm) = address_instr name rd rs1 imm
instr_of (form.Store name rs1 rs2 imm) = store_instr name rs1 rs2 imm
instr_of (form.Shift name rd rs1 by) = shift_instr name rd rs1 by
instr_of (form.Number name rd rs1 imm) = number_instr name rd rs1 imm
instr_of (form.Registers name rd rs1 rs2) = registers_instr name rd rs1 rs2
instr_of (form.Bare name) = bare_instr name
