-- The in-ports with freed room, as a set.
use Rattle.std.specs.Prelude.{◌≡◌, ℕ, ◌<◌, List, slice_index_or}
use Rattle.leaf_port.specs.Ports.{InState, fresh_in}
use Rattle.leaf_port.specs.Leaf.{is_owed}
use Rattle.leaf_port.specs.Masks.{has}

-- the set has just the in-ports with freed room
abbrev pub AreOwed : List InState → ℕ → Type 0
AreOwed ins owed = (j : ℕ) → j < 64 → has owed j ≡ is_owed (slice_index_or ins j (fresh_in 0))
