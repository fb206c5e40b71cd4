-- Blocks while they are made.
use Rattle.std.specs.Prelude.{◌≡◌, ℕ, ◌+◌, ◌*◌, ◌≤◌, zero, suc, List, [], ◌∷◌, ◌++◌, length, map}
use Rattle.fsm_core.specs.declared.micro.Micro.{Micro}
use Rattle.fsm_core.specs.declared.micro.Next.{Next}
use Rattle.pld_ast.specs.declared.tree.UnOp.{UnOp}
use Rattle.pld_ast.specs.declared.tree.UnOp.TheVariants as un
use Rattle.pld_ast.specs.declared.tree.Operator.{Operator}
use Rattle.pld_ast.specs.Program.{Value, Action, Operation1, Keep, Negate, Flip, IsZero}
use Rattle.pld_ast.specs.Nodes.{action_nodes}
use Rattle.pld_ast.specs.Resolve.{program_of}
use Rattle.fsm_ir.specs.declared.block.Block.{Block}
use Rattle.fsm_ir.specs.declared.builder.Builder.{Builder}
use Rattle.fsm_ir.specs.Blocks.{Piece, piece, Made, followed, emit, temps_in, reg_of, value_micros}

abbrev pub piece_in : Block → Piece
piece_in b = piece b.micros.items b.next

-- what a builder has made so far
abbrev pub made_in : Builder → Made
made_in b = record { ended = map piece_in b.ended.items; current = b.micros.items; temps = b.temps }

-- more micros in the current block
abbrev pub grown : Made → List Micro → ℕ → Made
grown m micros temps = record { ended = m.ended; current = m.current ++ micros; temps = temps }

-- the current block is ended
abbrev pub closed : Made → Next → Made
closed m next = record { ended = m.ended ++ piece m.current next ∷ []; current = []; temps = m.temps }

-- a block goes on elsewhere
abbrev pub set_next : List Piece → ℕ → Next → List Piece
set_next [] k next = []
set_next (b ∷ bs) zero next = piece b.micros next ∷ bs
set_next (b ∷ bs) (suc k) next = b ∷ set_next bs k next

abbrev pub aimed : Made → ℕ → Next → Made
aimed m k next = record { ended = set_next m.ended k next; current = m.current; temps = m.temps }

-- what an action makes after what is made; its first block is the current one
abbrev pub after : Made → Action → Made
after m a = followed m (emit a m.current (length m.ended) m.temps)

-- the operation of a prefix operator
abbrev pub operation1 : UnOp → Operation1
operation1 un.Neg = Negate
operation1 un.Plus = Keep
operation1 un.BitNot = Flip
operation1 un.Not = IsZero

-- an operator whose ports, scalars and arrays are within the limits
pub record HasRoom (op : Operator) : Type 0 where
  pub ins : (program_of op).ins ≤ 8
  pub outs : (program_of op).outs ≤ 8
  pub scalars : (program_of op).scalars ≤ 64
  pub arrays : length (program_of op).lengths ≤ 16

-- 65,535 registers hold the temporaries so far and those of a value
abbrev pub HasTemps : Made → Value → Type 0
HasTemps m v = m.temps + temps_in v ≤ 65535

-- the micros of a value are put, and its register is told
pub record IsPut (v : Value) (old new : Made) (r : ℕ) : Type 0 where
  pub made : new ≡ grown old (value_micros v old.temps) (old.temps + temps_in v)
  pub register : r ≡ reg_of v old.temps

-- registers and blocks, 65,535 of each, hold those so far, and one register and three blocks for each node of an action
pub record HasSpace (m : Made) (a : Action) : Type 0 where
  pub registers : m.temps + action_nodes a ≤ 65535
  pub blocks : length m.ended + 3 * action_nodes a ≤ 65535
