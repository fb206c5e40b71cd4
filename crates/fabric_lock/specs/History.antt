-- Histories, and whose their entries are.
use Rattle.std.specs.Prelude.{◌≡◌, ◌⊎◌, ℕ, ◌/◌, ◌%◌, ◌<◌, ◌==◌, length, nat_lt, if◌then◌else◌, List, [], ◌∷◌, ◌++◌}

-- the number of the seat that made an entry: its bits 8 to 11
abbrev pub seat_of : ℕ → ℕ
seat_of entry = entry / 256 % 16

-- the history begins with what was seen
abbrev pub Begins : List ℕ → List ℕ → Type 0
Begins history seen = (rest : List ℕ) × (history ≡ seen ++ rest)

-- the entries of the seat with this number, in order
abbrev pub entries_of : ℕ → List ℕ → List ℕ
entries_of number [] = []
entries_of number (e ∷ es) = if seat_of e == number then e ∷ entries_of number es else entries_of number es

-- each entry is of the seat with this number
abbrev pub AllOf : ℕ → List ℕ → Type 0
AllOf number [] = Unit {0}
AllOf number (e ∷ es) = (seat_of e ≡ number) × AllOf number es

-- each entry is of a number that was handed out: these are the numbers below `made`
abbrev pub AllMade : ℕ → List ℕ → Type 0
AllMade made [] = Unit {0}
AllMade made (e ∷ es) = (seat_of e < made) × AllMade made es

-- the longer of two histories, and the first where they are of one length
abbrev pub longer : List ℕ → List ℕ → List ℕ
longer xs ys = if nat_lt (length xs) (length ys) then ys else xs

-- the history as it was seen, or with one entry more, of the seat with this number
abbrev pub IsNext : ℕ → List ℕ → List ℕ → Type 0
IsNext number seen told = (told ≡ seen) ⊎ ((entry : ℕ) × (told ≡ seen ++ entry ∷ []) × (seat_of entry ≡ number))
