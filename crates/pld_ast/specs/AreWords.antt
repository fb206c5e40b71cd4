-- Runs over words.
use Rattle.std.specs.Prelude.{ℕ, List, All}
use Rattle.pld_base.specs.Events.{words_written}
use Rattle.pld_base.specs.declared.event.Event.{Event}
use Rattle.pld_base.specs.Words.{IsWord}
use Rattle.pld_ast.specs.Meaning.{State}

-- whatever is written is a word
abbrev pub WroteWords : List Event → Type 0
WroteWords events = (p : ℕ) → All IsWord (words_written events p)

-- the variables, the words to read and those that were written
pub record StateWords (st : State) : Type 0 where
  pub scalars : (s : ℕ) → IsWord (st.scalars s)
  pub arrays : (t i : ℕ) → IsWord (st.arrays t i)
  pub left : (p : ℕ) → All IsWord (st.left p)
  pub written : WroteWords st.events
