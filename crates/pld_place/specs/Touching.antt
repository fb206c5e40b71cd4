-- A board: operators on leaves and the channels between them, which are kept by the leaves at which they have an end.
use Rattle.std.specs.Prelude.{◌≡◌, ℕ, ◌+◌, ◌==◌, ◌≤◌, ◌<◌, Bool, ◌||◌, List, [], filter, length, slice_index_or}
use Rattle.std.specs.List.{All}
use Rattle.pld_place.specs.declared.ends.Ends.{Ends}
use Rattle.pld_place.specs.Exchanges.{leaf_at}

-- the channels, the leaf of each operator, and the last leaf of the tree
pub record Standing : Type 0 where
  pub channels : List Ends
  pub leaves : List ℕ
  pub last : ℕ

-- an end of the channel stands at the leaf
abbrev pub touches : List ℕ → ℕ → Ends → Bool
touches leaves leaf e = (leaf_at leaves e.from == leaf) || (leaf_at leaves e.to == leaf)

abbrev pub touching_at : List Ends → List ℕ → ℕ → List Ends
touching_at channels leaves leaf = filter (touches leaves leaf) channels

-- a list for each leaf from 0 to the last one, of the channels that have an end there
pub record IsBoard (s : Standing) (rows : List (List Ends)) : Type 0 where
  pub few : length s.channels ≤ 256
  pub deep : s.last ≤ 63
  pub all : length rows ≡ s.last + 1
  pub at : (leaf : ℕ) → leaf ≤ s.last → slice_index_or rows leaf [] ≡ touching_at s.channels s.leaves leaf

-- leaves past leaf a, up to the last one
abbrev pub AreAbove : ℕ → ℕ → List ℕ → Type 0
AreAbove a last leaves = All (λ b. (a < b) × (b ≤ last)) leaves

-- leaves from 1 to the last one, ascending
pub record AreAscending (last : ℕ) (leaves : List ℕ) : Type 0 where
  pub within : (i : ℕ) → i < length leaves → (1 ≤ slice_index_or leaves i 0) × (slice_index_or leaves i 0 ≤ last)
  pub order : (i j : ℕ) → i < j → j < length leaves → slice_index_or leaves i 0 < slice_index_or leaves j 0
