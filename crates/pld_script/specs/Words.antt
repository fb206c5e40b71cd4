-- The words of a line.
use Rattle.std.specs.Prelude.{ℕ, Bool, false, ◌==◌, ◌||◌, not, if◌then◌else◌, List, [], ◌∷◌}
use Rattle.std.specs.Str.{bytes_eq}

-- a space or a tab
abbrev pub is_blank : ℕ → Bool
is_blank b = (b == 32) || (b == 9)

-- a word stands in front
abbrev pub begins_word : List ℕ → Bool
begins_word [] = false
begins_word (b ∷ line) = not (is_blank b)

-- the byte in front of the first of these words
abbrev pub onto_word : ℕ → List (List ℕ) → List (List ℕ)
onto_word b [] = (b ∷ []) ∷ []
onto_word b (word ∷ words) = (b ∷ word) ∷ words

-- The words of a line, in order: the longest parts of it without a blank.
abbrev pub words_of : List ℕ → List (List ℕ)
words_of [] = []
words_of (b ∷ line) =
    if is_blank b then words_of line
    else if begins_word line then onto_word b (words_of line)
    else (b ∷ []) ∷ words_of line

-- there is one word, and it is this one
abbrev pub are_only : List ℕ → List (List ℕ) → Bool
are_only word [] = false
are_only word (first ∷ []) = bytes_eq first word
are_only word (first ∷ second ∷ words) = false
