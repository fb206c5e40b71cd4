-- The entries that a seat appends.
use Rattle.std.specs.Prelude.{ℕ, zero, suc, ◌+◌, ◌*◌, List, [], ◌∷◌, ◌++◌}

-- the entry of the seat with this number: the number in bits 8 to 11, a count below 256 in bits 0 to 7
abbrev pub entry_of : ℕ → ℕ → ℕ
entry_of number count = number * 256 + count

-- its entries with the counts 0, 1 and so on, so many of them, in order
abbrev pub counted_to : ℕ → ℕ → List ℕ
counted_to number zero = []
counted_to number (suc count) = counted_to number count ++ entry_of number count ∷ []
