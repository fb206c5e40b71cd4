-- Blocks whose states are known, put one after the other.
use Rattle.std.specs.Prelude.{ℕ, zero, suc, ◌+◌, List, [], ◌∷◌, ◌++◌, length, map}
use Rattle.fsm_core.specs.declared.micro.Micro.{Micro}
use Rattle.fsm_core.specs.declared.micro.Next.{Next}
use Rattle.fsm_core.specs.declared.micro.Next.TheVariants.{Goto}
use Rattle.fsm_core.specs.Machine.{Stage}
use Rattle.fsm_sched.specs.Rule.{scheduled}
use Rattle.fsm_ir.specs.declared.block.Block.{Block}
use Rattle.fsm_ir.specs.Blocks.{Piece}
use Rattle.fsm_back.specs.declared.sequence.Sequence.{Sequence}
use Rattle.fsm_back.specs.Table.{chained, next_in}

-- the states of a block, and the block where it goes on
pub record Scheduled : Type 0 where
  pub states : List (List Micro)
  pub next : Next

abbrev pub sequence_in : Sequence → Scheduled
sequence_in s = record { states = map (λ m. m.items) s.states.items; next = s.next }

abbrev pub schedule_of : Piece → Scheduled
schedule_of b = record { states = scheduled b.micros; next = b.next }

-- a block, scheduled
abbrev pub schedule_in : Block → Scheduled
schedule_in b = record { states = scheduled b.micros.items; next = b.next }

-- how many states they have
abbrev pub count_states : List Scheduled → ℕ
count_states [] = 0
count_states (b ∷ bs) = length b.states + count_states bs

-- the number of each one's first state
abbrev pub starts : ℕ → List Scheduled → List ℕ
starts i [] = []
starts i (b ∷ bs) = i ∷ starts (i + length b.states) bs

-- their states, one block after the other
abbrev pub laid_all : (ℕ → ℕ) → ℕ → List Scheduled → List Stage
laid_all first i [] = []
laid_all first i (b ∷ bs) = chained i b.states (next_in first b.next) ++ laid_all first (i + length b.states) bs

-- where a state goes on with so many states of its block after it
abbrev pub onward : ℕ → ℕ → Next → Next
onward zero at next = next
onward (suc n) at next = Goto at
