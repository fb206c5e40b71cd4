-- The receiving end of a channel, as a value.
use Rattle.std.specs.Prelude.{ℕ, ◌+◌, ◌%◌, List, replicate, Option, Some, None, slice_set, slice_index_or}

pub record InState : Type 0 where
  -- for each number, the word that has come and isn't read
  pub slots : List (Option ℕ)
  -- the number of the next word
  pub next : ℕ
  -- the room that reads have freed, and that isn't given back
  pub freed : ℕ

-- a port as a run begins
abbrev pub fresh_in : ℕ → InState
fresh_in window = record { slots = replicate window None; next = 0; freed = 0 }

-- the word in the slot of the next number
abbrev pub next_of : InState → Option ℕ
next_of q = slice_index_or q.slots q.next None

-- a read empties the slot of the next number, and frees its room
abbrev pub taken : ℕ → InState → InState
taken window q = record { slots = slice_set q.slots q.next None; next = (q.next + 1) % window; freed = q.freed + 1 }

-- a word comes into the slot of its number
abbrev pub filled_at : ℕ → ℕ → InState → InState
filled_at number word q = record q { slots = slice_set q.slots number (Some word) }

-- the freed room is given back
abbrev pub credited : InState → InState
credited q = record q { freed = 0 }
