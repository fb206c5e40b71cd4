-- The mnemonics, and the texts that are one.
use Rattle.std.specs.Prelude.{ℕ, List, codes, Option, Some, None, if◌then◌else◌}
use Rattle.std.specs.Str.{bytes_eq}
use Rattle.rv_text.specs.declared.names.UpperName.{UpperName}
use Rattle.rv_text.specs.declared.names.UpperName.TheVariants as upper
use Rattle.rv_text.specs.declared.names.BranchName.{BranchName}
use Rattle.rv_text.specs.declared.names.BranchName.TheVariants as branch
use Rattle.rv_text.specs.declared.names.AddressName.{AddressName}
use Rattle.rv_text.specs.declared.names.AddressName.TheVariants as address
use Rattle.rv_text.specs.declared.names.StoreName.{StoreName}
use Rattle.rv_text.specs.declared.names.StoreName.TheVariants as store
use Rattle.rv_text.specs.declared.names.ShiftName.{ShiftName}
use Rattle.rv_text.specs.declared.names.ShiftName.TheVariants as shift
use Rattle.rv_text.specs.declared.names.NumberName.{NumberName}
use Rattle.rv_text.specs.declared.names.NumberName.TheVariants as number
use Rattle.rv_text.specs.declared.names.RegistersName.{RegistersName}
use Rattle.rv_text.specs.declared.names.RegistersName.TheVariants as registers
use Rattle.rv_text.specs.declared.names.BareName.{BareName}
use Rattle.rv_text.specs.declared.names.BareName.TheVariants as bare

abbrev pub upper_name : UpperName → List ℕ
upper_name upper.Lui = codes "lui"
upper_name upper.Auipc = codes "auipc"

abbrev pub branch_name : BranchName → List ℕ
branch_name branch.Beq = codes "beq"
branch_name branch.Bne = codes "bne"
branch_name branch.Blt = codes "blt"
branch_name branch.Bge = codes "bge"
branch_name branch.Bltu = codes "bltu"
branch_name branch.Bgeu = codes "bgeu"

abbrev pub address_name : AddressName → List ℕ
address_name address.Jalr = codes "jalr"
address_name address.Lb = codes "lb"
address_name address.Lh = codes "lh"
address_name address.Lw = codes "lw"
address_name address.Lbu = codes "lbu"
address_name address.Lhu = codes "lhu"

abbrev pub store_name : StoreName → List ℕ
store_name store.Sb = codes "sb"
store_name store.Sh = codes "sh"
store_name store.Sw = codes "sw"

abbrev pub shift_name : ShiftName → List ℕ
shift_name shift.Slli = codes "slli"
shift_name shift.Srli = codes "srli"
shift_name shift.Srai = codes "srai"

abbrev pub number_name : NumberName → List ℕ
number_name number.Addi = codes "addi"
number_name number.Slti = codes "slti"
number_name number.Sltiu = codes "sltiu"
number_name number.Xori = codes "xori"
number_name number.Ori = codes "ori"
number_name number.Andi = codes "andi"
number_name number.Fence = codes "fence"

abbrev pub registers_name : RegistersName → List ℕ
registers_name registers.Add = codes "add"
registers_name registers.Sub = codes "sub"
registers_name registers.Sll = codes "sll"
registers_name registers.Slt = codes "slt"
registers_name registers.Sltu = codes "sltu"
registers_name registers.Xor = codes "xor"
registers_name registers.Srl = codes "srl"
registers_name registers.Sra = codes "sra"
registers_name registers.Or = codes "or"
registers_name registers.And = codes "and"
registers_name registers.Mul = codes "mul"
registers_name registers.Mulh = codes "mulh"
registers_name registers.Mulhsu = codes "mulhsu"
registers_name registers.Mulhu = codes "mulhu"
registers_name registers.Div = codes "div"
registers_name registers.Divu = codes "divu"
registers_name registers.Rem = codes "rem"
registers_name registers.Remu = codes "remu"

abbrev pub bare_name : BareName → List ℕ
bare_name bare.Ecall = codes "ecall"
bare_name bare.Ebreak = codes "ebreak"

abbrev pub more_registers_named : List ℕ → Option RegistersName
more_registers_named text =
    if bytes_eq text (codes "mul") then Some registers.Mul else (
    if bytes_eq text (codes "mulh") then Some registers.Mulh else (
    if bytes_eq text (codes "mulhsu") then Some registers.Mulhsu else (
    if bytes_eq text (codes "mulhu") then Some registers.Mulhu else (
    if bytes_eq text (codes "div") then Some registers.Div else (
    if bytes_eq text (codes "divu") then Some registers.Divu else (
    if bytes_eq text (codes "rem") then Some registers.Rem else (
    if bytes_eq text (codes "remu") then Some registers.Remu else None)))))))

abbrev pub upper_named : List ℕ → Option UpperName
upper_named text =
    if bytes_eq text (codes "lui") then Some upper.Lui else (
    if bytes_eq text (codes "auipc") then Some upper.Auipc else None)

abbrev pub branch_named : List ℕ → Option BranchName
branch_named text =
    if bytes_eq text (codes "beq") then Some branch.Beq else (
    if bytes_eq text (codes "bne") then Some branch.Bne else (
    if bytes_eq text (codes "blt") then Some branch.Blt else (
    if bytes_eq text (codes "bge") then Some branch.Bge else (
    if bytes_eq text (codes "bltu") then Some branch.Bltu else (
    if bytes_eq text (codes "bgeu") then Some branch.Bgeu else None)))))

abbrev pub address_named : List ℕ → Option AddressName
address_named text =
    if bytes_eq text (codes "jalr") then Some address.Jalr else (
    if bytes_eq text (codes "lb") then Some address.Lb else (
    if bytes_eq text (codes "lh") then Some address.Lh else (
    if bytes_eq text (codes "lw") then Some address.Lw else (
    if bytes_eq text (codes "lbu") then Some address.Lbu else (
    if bytes_eq text (codes "lhu") then Some address.Lhu else None)))))

abbrev pub store_named : List ℕ → Option StoreName
store_named text =
    if bytes_eq text (codes "sb") then Some store.Sb else (
    if bytes_eq text (codes "sh") then Some store.Sh else (
    if bytes_eq text (codes "sw") then Some store.Sw else None))

abbrev pub shift_named : List ℕ → Option ShiftName
shift_named text =
    if bytes_eq text (codes "slli") then Some shift.Slli else (
    if bytes_eq text (codes "srli") then Some shift.Srli else (
    if bytes_eq text (codes "srai") then Some shift.Srai else None))

abbrev pub number_named : List ℕ → Option NumberName
number_named text =
    if bytes_eq text (codes "addi") then Some number.Addi else (
    if bytes_eq text (codes "slti") then Some number.Slti else (
    if bytes_eq text (codes "sltiu") then Some number.Sltiu else (
    if bytes_eq text (codes "xori") then Some number.Xori else (
    if bytes_eq text (codes "ori") then Some number.Ori else (
    if bytes_eq text (codes "andi") then Some number.Andi else (
    if bytes_eq text (codes "fence") then Some number.Fence else None))))))

abbrev pub registers_named : List ℕ → Option RegistersName
registers_named text =
    if bytes_eq text (codes "add") then Some registers.Add else (
    if bytes_eq text (codes "sub") then Some registers.Sub else (
    if bytes_eq text (codes "sll") then Some registers.Sll else (
    if bytes_eq text (codes "slt") then Some registers.Slt else (
    if bytes_eq text (codes "sltu") then Some registers.Sltu else (
    if bytes_eq text (codes "xor") then Some registers.Xor else (
    if bytes_eq text (codes "srl") then Some registers.Srl else (
    if bytes_eq text (codes "sra") then Some registers.Sra else (
    if bytes_eq text (codes "or") then Some registers.Or else (
    if bytes_eq text (codes "and") then Some registers.And else more_registers_named text)))))))))

abbrev pub bare_named : List ℕ → Option BareName
bare_named text =
    if bytes_eq text (codes "ecall") then Some bare.Ecall else (
    if bytes_eq text (codes "ebreak") then Some bare.Ebreak else None)
