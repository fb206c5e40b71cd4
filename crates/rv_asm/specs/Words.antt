-- The lines of a text, and the words of a line.
use Rattle.std.specs.Prelude.{ℕ, Bool, false, not, ◌==◌, ◌||◌, if◌then◌else◌, List, [], ◌∷◌}

-- the byte in front of the first of these parts
abbrev pub onto : ℕ → List (List ℕ) → List (List ℕ)
onto b [] = (b ∷ []) ∷ []
onto b (part ∷ parts) = (b ∷ part) ∷ parts

-- the lines of a text, each without its line end, byte 10; the last one may have none
abbrev pub lines_of : List ℕ → List (List ℕ)
lines_of [] = []
lines_of (b ∷ text) = if b == 10 then [] ∷ lines_of text else onto b (lines_of text)

-- a space or a tab
abbrev pub is_blank : ℕ → Bool
is_blank b = b == 32 || b == 9

-- a blank, a comma, or `#`
abbrev pub is_apart : ℕ → Bool
is_apart b = is_blank b || b == 44 || b == 35

-- a byte of a word stands in front
abbrev pub begins_word : List ℕ → Bool
begins_word [] = false
begins_word (b ∷ line) = not (is_apart b)

-- The words of a line, in order: its longest parts without a blank and a comma, and each comma by itself. A `#` and what
-- stands behind it is left out.
abbrev pub words_of : List ℕ → List (List ℕ)
words_of [] = []
words_of (b ∷ line) =
    if b == 35 then []
    else if is_blank b then words_of line
    else if b == 44 then (44 ∷ []) ∷ words_of line
    else if begins_word line then onto b (words_of line)
    else (b ∷ []) ∷ words_of line
