-- Each mnemonic is a word, is read back, and is short.
use Rattle.std.proofs.Common.{◌≡◌, ℕ, ◌≤◌, List, length, refl, arith, Some}
use Rattle.rv_text.specs.Names.{upper_name, branch_name, address_name, store_name, shift_name, number_name, registers_name, bare_name}
use Rattle.rv_text.specs.declared.names.UpperName.{UpperName}
use Rattle.rv_text.specs.declared.names.UpperName.TheVariants as upper
use Rattle.rv_text.specs.declared.names.BranchName.{BranchName}
use Rattle.rv_text.specs.declared.names.BranchName.TheVariants as branch
use Rattle.rv_text.specs.declared.names.AddressName.{AddressName}
use Rattle.rv_text.specs.declared.names.AddressName.TheVariants as address
use Rattle.rv_text.specs.declared.names.StoreName.{StoreName}
use Rattle.rv_text.specs.declared.names.StoreName.TheVariants as store
use Rattle.rv_text.specs.declared.names.ShiftName.{ShiftName}
use Rattle.rv_text.specs.declared.names.ShiftName.TheVariants as shift
use Rattle.rv_text.specs.declared.names.NumberName.{NumberName}
use Rattle.rv_text.specs.declared.names.NumberName.TheVariants as number
use Rattle.rv_text.specs.declared.names.RegistersName.{RegistersName}
use Rattle.rv_text.specs.declared.names.RegistersName.TheVariants as registers
use Rattle.rv_text.specs.declared.names.BareName.{BareName}
use Rattle.rv_text.specs.declared.names.BareName.TheVariants as bare
use Rattle.rv_asm.specs.Forms.{mnemonic_in}
use Rattle.rv_asm.specs.declared.mnemonic.Mnemonic.{Mnemonic}
use Rattle.rv_asm.specs.declared.mnemonic.Mnemonic.TheVariants as m
use Rattle.rv_asm.proofs.Plain.{IsWord}

-- what is known of a mnemonic's text
pub record Names (text : List ℕ) (mnemonic : Mnemonic) (most : ℕ) : Type 0 where
  pub word : IsWord text
  pub back : mnemonic_in text ≡ Some mnemonic
  pub short : length text ≤ most

pub upper_names : (n : UpperName) → Names (upper_name n) (m.Upper n) 5
upper_names upper.Lui = record { word = record { plain = refl; some = omega arith }; back = refl; short = omega arith }
upper_names upper.Auipc = record { word = record { plain = refl; some = omega arith }; back = refl; short = omega arith }

pub branch_names : (n : BranchName) → Names (branch_name n) (m.Branch n) 5
branch_names branch.Beq = record { word = record { plain = refl; some = omega arith }; back = refl; short = omega arith }
branch_names branch.Bne = record { word = record { plain = refl; some = omega arith }; back = refl; short = omega arith }
branch_names branch.Blt = record { word = record { plain = refl; some = omega arith }; back = refl; short = omega arith }
branch_names branch.Bge = record { word = record { plain = refl; some = omega arith }; back = refl; short = omega arith }
branch_names branch.Bltu = record { word = record { plain = refl; some = omega arith }; back = refl; short = omega arith }
branch_names branch.Bgeu = record { word = record { plain = refl; some = omega arith }; back = refl; short = omega arith }

pub address_names : (n : AddressName) → Names (address_name n) (m.Address n) 5
address_names address.Jalr = record { word = record { plain = refl; some = omega arith }; back = refl; short = omega arith }
address_names address.Lb = record { word = record { plain = refl; some = omega arith }; back = refl; short = omega arith }
address_names address.Lh = record { word = record { plain = refl; some = omega arith }; back = refl; short = omega arith }
address_names address.Lw = record { word = record { plain = refl; some = omega arith }; back = refl; short = omega arith }
address_names address.Lbu = record { word = record { plain = refl; some = omega arith }; back = refl; short = omega arith }
address_names address.Lhu = record { word = record { plain = refl; some = omega arith }; back = refl; short = omega arith }

pub store_names : (n : StoreName) → Names (store_name n) (m.Store n) 5
store_names store.Sb = record { word = record { plain = refl; some = omega arith }; back = refl; short = omega arith }
store_names store.Sh = record { word = record { plain = refl; some = omega arith }; back = refl; short = omega arith }
store_names store.Sw = record { word = record { plain = refl; some = omega arith }; back = refl; short = omega arith }

pub shift_names : (n : ShiftName) → Names (shift_name n) (m.Shift n) 5
shift_names shift.Slli = record { word = record { plain = refl; some = omega arith }; back = refl; short = omega arith }
shift_names shift.Srli = record { word = record { plain = refl; some = omega arith }; back = refl; short = omega arith }
shift_names shift.Srai = record { word = record { plain = refl; some = omega arith }; back = refl; short = omega arith }

pub number_names : (n : NumberName) → Names (number_name n) (m.Number n) 5
number_names number.Addi = record { word = record { plain = refl; some = omega arith }; back = refl; short = omega arith }
number_names number.Slti = record { word = record { plain = refl; some = omega arith }; back = refl; short = omega arith }
number_names number.Sltiu = record { word = record { plain = refl; some = omega arith }; back = refl; short = omega arith }
number_names number.Xori = record { word = record { plain = refl; some = omega arith }; back = refl; short = omega arith }
number_names number.Ori = record { word = record { plain = refl; some = omega arith }; back = refl; short = omega arith }
number_names number.Andi = record { word = record { plain = refl; some = omega arith }; back = refl; short = omega arith }
number_names number.Fence = record { word = record { plain = refl; some = omega arith }; back = refl; short = omega arith }

pub registers_names : (n : RegistersName) → Names (registers_name n) (m.Registers n) 6
registers_names registers.Add = record { word = record { plain = refl; some = omega arith }; back = refl; short = omega arith }
registers_names registers.Sub = record { word = record { plain = refl; some = omega arith }; back = refl; short = omega arith }
registers_names registers.Sll = record { word = record { plain = refl; some = omega arith }; back = refl; short = omega arith }
registers_names registers.Slt = record { word = record { plain = refl; some = omega arith }; back = refl; short = omega arith }
registers_names registers.Sltu = record { word = record { plain = refl; some = omega arith }; back = refl; short = omega arith }
registers_names registers.Xor = record { word = record { plain = refl; some = omega arith }; back = refl; short = omega arith }
registers_names registers.Srl = record { word = record { plain = refl; some = omega arith }; back = refl; short = omega arith }
registers_names registers.Sra = record { word = record { plain = refl; some = omega arith }; back = refl; short = omega arith }
registers_names registers.Or = record { word = record { plain = refl; some = omega arith }; back = refl; short = omega arith }
registers_names registers.And = record { word = record { plain = refl; some = omega arith }; back = refl; short = omega arith }
registers_names registers.Mul = record { word = record { plain = refl; some = omega arith }; back = refl; short = omega arith }
registers_names registers.Mulh = record { word = record { plain = refl; some = omega arith }; back = refl; short = omega arith }
registers_names registers.Mulhsu = record { word = record { plain = refl; some = omega arith }; back = refl; short = omega arith }
registers_names registers.Mulhu = record { word = record { plain = refl; some = omega arith }; back = refl; short = omega arith }
registers_names registers.Div = record { word = record { plain = refl; some = omega arith }; back = refl; short = omega arith }
registers_names registers.Divu = record { word = record { plain = refl; some = omega arith }; back = refl; short = omega arith }
registers_names registers.Rem = record { word = record { plain = refl; some = omega arith }; back = refl; short = omega arith }
registers_names registers.Remu = record { word = record { plain = refl; some = omega arith }; back = refl; short = omega arith }

pub bare_names : (n : BareName) → Names (bare_name n) (m.Bare n) 6
bare_names bare.Ecall = record { word = record { plain = refl; some = omega arith }; back = refl; short = omega arith }
bare_names bare.Ebreak = record { word = record { plain = refl; some = omega arith }; back = refl; short = omega arith }
