-- The lines of a text.
use Rattle.std.specs.Prelude.{ℕ, Bool, false, ◌==◌, ◌&&◌, if◌then◌else◌, List, [], ◌∷◌, ◌≢◌}

-- a line end comes next
abbrev pub begins_line_end : List ℕ → Bool
begins_line_end [] = false
begins_line_end (b ∷ bytes) = b == 10

-- The byte in front of the first of these lines. Where there is none, it begins a line that has no line end:
-- that is a line only where the text has ended.
abbrev pub onto : Bool → ℕ → List (List ℕ) → List (List ℕ)
onto ended b [] = if ended then (b ∷ []) ∷ [] else []
onto ended b (line ∷ lines) = (b ∷ line) ∷ lines

-- The lines of a text, each without its line end: byte 10, and a byte 13 directly before it.
abbrev pub lines : Bool → List ℕ → List (List ℕ)
lines ended [] = []
lines ended (b ∷ bytes) =
    if b == 10 then [] ∷ lines ended bytes
    else if begins_line_end bytes && (b == 13) then lines ended bytes
    else onto ended b (lines ended bytes)

-- no line end stands in these bytes
abbrev pub HasNoEnd : List ℕ → Type 0
HasNoEnd [] = Unit {0}
HasNoEnd (b ∷ bytes) = (b ≢ 10) × HasNoEnd bytes

-- a line that has its line end, without the byte 13 directly before it
abbrev pub stripped : List ℕ → List ℕ
stripped [] = []
stripped (b ∷ []) = if b == 13 then [] else b ∷ []
stripped (b ∷ c ∷ bytes) = b ∷ stripped (c ∷ bytes)
