-- An operator compiled for a softcore, and the code of its parts.
use Rattle.std.specs.Prelude.{ℕ, ◌+◌, ◌*◌, ◌≤◌, List, [], ◌∷◌, length, map, sum, min, pos}
use Rattle.pld_ast.specs.declared.tree.Expr.{Expr}
use Rattle.pld_ast.specs.declared.tree.Stmt.{Stmt}
use Rattle.pld_ast.specs.declared.tree.Operator.{Operator}
use Rattle.pld_ast.specs.declared.tree.UnOp.{UnOp}
use Rattle.pld_ast.specs.declared.tree.UnOp.TheVariants as un
use Rattle.pld_ast.specs.Program.{Action, Keep, Negate, Flip, IsZero}
use Rattle.pld_ast.specs.Nodes.{action_nodes}
use Rattle.pld_ast.specs.Resolve.{declared_in, program_of, value_in, action_in, block_in}
use Rattle.rv_isa.specs.declared.instr.Instr.{Instr}
use Rattle.rv_isa.specs.declared.instr.Instr.TheVariants.{Bne, Jal}
use Rattle.rv_isa.specs.Spelling.{spelling}
use Rattle.image_form.specs.Spelling.{Form, Soft, Hard}
use Rattle.rv_back.specs.Code.{neg_of, op1_code, value_code, action_code, soft_code}

-- an operator, compiled: the words of its code
abbrev pub soft_form : Operator → Form
soft_form op = Soft (program_of op).ins (program_of op).outs (map spelling (soft_code (program_of op)))

-- the image of a softcore with at most 12,005 words
abbrev pub IsShort : Form → Type 0
IsShort (Soft ins outs code) = length code ≤ 12005
IsShort (Hard t) = ⊥

-- an operator whose ports, scalars and arrays are within the limits
pub record HasRoom (op : Operator) : Type 0 where
  pub ins : (program_of op).ins ≤ 8
  pub outs : (program_of op).outs ≤ 8
  pub scalars : (program_of op).scalars ≤ 64
  pub words : sum (program_of op).lengths ≤ 8192

-- 12,005 instructions hold this code and 12 for each node of the action
abbrev pub HasSpace : List Instr → Action → Type 0
HasSpace code a = length code + 12 * action_nodes a ≤ 12005

-- a jump over so many words of the code, at most 12,005
abbrev pub jump_on : ℕ → Instr
jump_on n = Jal 0 (pos (4 * min n 12005))

-- a jump back by so many words of the code, at most 12,005
abbrev pub jump_back : ℕ → Instr
jump_back n = Jal 0 (neg_of (4 * min n 12005))

-- a test, and a jump whose length isn't told yet
abbrev pub open_test : List Instr
open_test = Bne 10 0 (pos 8) ∷ jump_on 0 ∷ []

-- the code of a prefix operator
abbrev pub un_code : UnOp → List Instr
un_code un.Neg = op1_code Negate
un_code un.Plus = op1_code Keep
un_code un.BitNot = op1_code Flip
un_code un.Not = op1_code IsZero

-- the code of an expression of an operator
abbrev pub expr_code : Operator → Expr → List Instr
expr_code op e = value_code (program_of op).lengths (value_in (declared_in op) e)

-- the code of a statement of an operator
abbrev pub stmt_code : Operator → Stmt → List Instr
stmt_code op s = action_code (program_of op).lengths (action_in (declared_in op) s)

-- the code of a list of statements of an operator
abbrev pub block_code : Operator → List Stmt → List Instr
block_code op body = action_code (program_of op).lengths (block_in (declared_in op) body)
