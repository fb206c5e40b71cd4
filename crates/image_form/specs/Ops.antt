-- The numbers of the operations of hardware pages.
use Rattle.std.specs.Prelude.{ℕ, List, [], ◌∷◌, Option, Some, None, ◌==◌, if◌then◌else◌}
use Rattle.fsm_core.specs.declared.micro.MicroOp.{MicroOp}
use Rattle.fsm_core.specs.declared.micro.MicroOp.TheVariants as op

abbrev pub number_of : MicroOp → ℕ
number_of op.Set = 0
number_of op.Move = 1
number_of op.Add = 2
number_of op.Sub = 3
number_of op.And = 4
number_of op.Or = 5
number_of op.Xor = 6
number_of op.Shl = 7
number_of op.Shr = 8
number_of op.Sar = 9
number_of op.Lts = 10
number_of op.Ltu = 11
number_of op.Les = 12
number_of op.Leu = 13
number_of op.Eq = 14
number_of op.Ne = 15
number_of op.Land = 16
number_of op.Lor = 17
number_of op.Neg = 18
number_of op.Not = 19
number_of op.Lnot = 20
number_of op.Mul = 21
number_of op.Div = 22
number_of op.Divu = 23
number_of op.Rem = 24
number_of op.Remu = 25
number_of op.Load = 26
number_of op.Store = 27
number_of op.Read = 28
number_of op.Write = 29

abbrev pub ops : List MicroOp
ops = op.Set ∷ op.Move ∷ op.Add ∷ op.Sub ∷ op.And ∷ op.Or ∷ op.Xor ∷ op.Shl ∷ op.Shr ∷ op.Sar ∷ op.Lts ∷ op.Ltu ∷ op.Les ∷ op.Leu ∷ op.Eq ∷ op.Ne ∷ op.Land ∷ op.Lor ∷ op.Neg ∷ op.Not ∷ op.Lnot ∷ op.Mul ∷ op.Div ∷ op.Divu ∷ op.Rem ∷ op.Remu ∷ op.Load ∷ op.Store ∷ op.Read ∷ op.Write ∷ []

-- the operation among these that has this number
abbrev pub op_among : List MicroOp → ℕ → Option MicroOp
op_among [] n = None
op_among (o ∷ os) n = if n == number_of o then Some o else op_among os n

-- the operation with this number
abbrev pub op_of : ℕ → Option MicroOp
op_of n = op_among ops n
