-- The hardware table of a program: its blocks' states, one block after the other.
use Rattle.std.specs.Prelude.{ℕ, zero, suc, ◌+◌, List, [], ◌∷◌, ◌++◌, length}
use Rattle.fsm_core.specs.declared.micro.Micro.{Micro}
use Rattle.fsm_core.specs.declared.micro.Next.{Next}
use Rattle.fsm_core.specs.declared.micro.Next.TheVariants.{Goto, Branch, End}
use Rattle.fsm_core.specs.Machine.{Stage}
use Rattle.fsm_core.specs.Table.{Plan}
use Rattle.fsm_sched.specs.Rule.{scheduled}
use Rattle.fsm_ir.specs.Blocks.{Piece, blocks_of, whole}
use Rattle.pld_ast.specs.Program.{Program}

abbrev pub stage : List Micro → Next → Stage
stage ms nx = record { micros = ms; next = nx }

-- states from place i on: each goes to the next one, and the last has the block's Next
abbrev pub chain : ℕ → List Micro → List (List Micro) → Next → List Stage
chain i s [] nx = stage s nx ∷ []
chain i s (s' ∷ ss) nx = stage s (Goto (i + 1)) ∷ chain (i + 1) s' ss nx

abbrev pub chained : ℕ → List (List Micro) → Next → List Stage
chained i [] nx = []
chained i (s ∷ ss) nx = chain i s ss nx

-- a block's first state
abbrev pub first_in : List Piece → ℕ → ℕ
first_in [] k = 0
first_in (b ∷ bs) zero = 0
first_in (b ∷ bs) (suc k) = length (scheduled b.micros) + first_in bs k

-- blocks replaced by their first states
abbrev pub next_in : (ℕ → ℕ) → Next → Next
next_in first (Goto k) = Goto (first k)
next_in first (Branch r k j) = Branch r (first k) (first j)
next_in first End = End

abbrev pub laid : (ℕ → ℕ) → ℕ → List Piece → List Stage
laid first i [] = []
laid first i (b ∷ bs) = chained i (scheduled b.micros) (next_in first b.next) ++ laid first (i + length (scheduled b.micros)) bs

abbrev pub states_of : List Piece → List Stage
states_of bs = laid (first_in bs) 0 bs

-- the table of a program
abbrev pub gen_hard : Program → Plan
gen_hard g = record {
  ins = g.ins;
  outs = g.outs;
  arrays = g.lengths;
  registers = (whole g).temps;
  states = states_of (blocks_of g);
}
