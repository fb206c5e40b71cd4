-- The rows of all leaves.
use Rattle.std.specs.Prelude.{◌≡◌, ℕ, ◌<◌, List, [], length, replicate, Option, None, slice_set, slice_index_or}
use Rattle.net_switch.specs.declared.packet.Row.{Row}

-- for each of 64 leaves, the row of each of its 16 slots
abbrev pub no_rows : List (List (Option Row))
no_rows = replicate 64 (replicate 16 None)

abbrev pub row_in : List (List (Option Row)) → ℕ → ℕ → Option Row
row_in t leaf slot = slice_index_or (slice_index_or t leaf []) slot None

abbrev pub with_entry : List (List (Option Row)) → ℕ → ℕ → Option Row → List (List (Option Row))
with_entry t leaf slot row = slice_set t leaf (slice_set (slice_index_or t leaf []) slot row)

pub record IsTables (t : List (List (Option Row))) : Type 0 where
  pub leaves : length t ≡ 64
  pub slots : (leaf : ℕ) → leaf < 64 → length (slice_index_or t leaf []) ≡ 16
