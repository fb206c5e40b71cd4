-- The words of a line that is cut behind its first word.
use Rattle.std.proofs.Common.{◌≡◌, ℕ, zero, suc, ◌<◌, ◌≤◌, Bool, true, false, cond, List, [], ◌∷◌, ◌++◌, length, take, drop, get_or, refl, sym, ap, ◌∙◌, arith, not, Option, Some, None}
use Rattle.std.proofs.lemmas.List.{take-append-drop, length-take}
use Rattle.pld_script.specs.Words.{is_blank, begins_word, words_of, onto_word}
use Rattle.pld_script.specs.Grammar.{starts_comment, opens_text, kind_of, kind_of_words}
use Rattle.pld_script.specs.declared.line.LineKind.TheVariants.{Skipped, Opens, Single}

-- no blank stands in these bytes
abbrev pub HasNoBlank : List ℕ → Type 0
HasNoBlank [] = Unit {0}
HasNoBlank (b ∷ bytes) = (is_blank b ≡ false) × HasNoBlank bytes

-- a byte within a word
step : (b : ℕ) (line : List ℕ) → is_blank b ≡ false → begins_word line ≡ true → words_of (b ∷ line) ≡ onto_word b (words_of line)
step b line h q = rw h (rw q refl)

-- a word with no other directly behind it comes first
pub words-word : (word rest : List ℕ) → HasNoBlank word → 0 < length word → begins_word rest ≡ false → words_of (word ++ rest) ≡ word ∷ words_of rest
words-word [] rest h some q = absurd (omega arith)
words-word (b ∷ []) rest h some q = rw h.0 (rw q refl)
words-word (b ∷ c ∷ word) rest h some q =
    step b ((c ∷ word) ++ rest) h.0 (ap not h.1.0) ∙ ap (onto_word b) (words-word (c ∷ word) rest h.1 (omega arith) q)

no_blanks : (bytes : List ℕ) (n : ℕ) → ((k : ℕ) → k < n → is_blank (get_or bytes k 0) ≡ false) → n ≤ length bytes → HasNoBlank (take n bytes)
no_blanks bytes zero h p = tt
no_blanks [] (suc n) h p = tt
no_blanks (b ∷ bytes) (suc n) h p = (h 0 (omega arith), no_blanks bytes n (λ k q. h (suc k) (omega arith)) (omega arith))

blank_next : (bytes : List ℕ) (n : ℕ) → (n < length bytes → is_blank (get_or bytes n 0) ≡ true) → begins_word (drop n bytes) ≡ false
blank_next [] zero h = refl
blank_next (b ∷ bytes) zero h = ap not (h (omega arith))
blank_next [] (suc n) h = refl
blank_next (b ∷ bytes) (suc n) h = blank_next bytes n (λ p. h (omega arith))

first_place : (bytes : List ℕ) (n : ℕ) → 0 < length bytes → begins_word bytes ≡ true → (n < length bytes → is_blank (get_or bytes n 0) ≡ true) → 0 < n
first_place [] n some begins found = absurd (omega arith)
first_place (b ∷ bytes) zero some begins found = let e : not true ≡ true = ap not (sym (found (omega arith))) ∙ begins in cc
first_place (b ∷ bytes) (suc n) some begins found = omega arith

-- where a word comes first, it ends at the first blank
pub words-first : (bytes : List ℕ) (n : ℕ) → 0 < length bytes → begins_word bytes ≡ true → n ≤ length bytes
    → ((k : ℕ) → k < n → is_blank (get_or bytes k 0) ≡ false) → (n < length bytes → is_blank (get_or bytes n 0) ≡ true)
    → words_of bytes ≡ take n bytes ∷ words_of (drop n bytes)
words-first bytes n some begins within clean found =
    let place : 0 < n = first_place bytes n some begins found in
    let long : 0 < length (take n bytes) = omega (arith, length-take {A = ℕ}) in
    ap words_of (sym (take-append-drop n bytes))
    ∙ words-word (take n bytes) (drop n bytes) (no_blanks bytes n clean within) long (blank_next bytes n found)

-- ---- the kind of a line

onto_first : (b : ℕ) (words : List (List ℕ)) → (word : List ℕ) × (rest : List (List ℕ)) × (onto_word b words ≡ (b ∷ word) ∷ rest)
onto_first b [] = ([], [], refl)
onto_first b (word ∷ words) = (word, words, refl)

either_first : (c : Bool) (b : ℕ) (words : List (List ℕ)) → (word : List ℕ) × (rest : List (List ℕ)) × (cond c (onto_word b words) ((b ∷ []) ∷ words) ≡ (b ∷ word) ∷ rest)
either_first true b words = onto_first b words
either_first false b words = ([], words, refl)

not_blank : (b : ℕ) → not (is_blank b) ≡ true → is_blank b ≡ false
not_blank b h = from (is_blank b) h
  where
    from : (c : Bool) → not c ≡ true → c ≡ false
    from true e = cc
    from false e = refl

-- the first byte of a line that begins with a word is that of its first word
first_byte : (b : ℕ) (line : List ℕ) → is_blank b ≡ false → (word : List ℕ) × (rest : List (List ℕ)) × (words_of (b ∷ line) ≡ (b ∷ word) ∷ rest)
first_byte b line h = let p = either_first (begins_word line) b (words_of line) in (p.0, p.1, rw h p.2)

pub kind_comment : (line : List ℕ) → (0 < length line → begins_word line ≡ true) → starts_comment line ≡ true → Skipped ≡ kind_of line
kind_comment [] h e = cc
kind_comment (b ∷ line) h e =
    let p = first_byte b line (not_blank b (h (omega arith))) in
    sym (ap kind_of_words p.2 ∙ ap (λ c. cond c Skipped (cond (opens_text (b ∷ p.0)) Opens Single)) e)

no_comment : (line first : List ℕ) (words : List (List ℕ)) → (0 < length line → begins_word line ≡ true) → starts_comment line ≡ false → words_of line ≡ first ∷ words → starts_comment first ≡ false
no_comment [] first words h e w = cc
no_comment (b ∷ line) first words h e w =
    let p = first_byte b line (not_blank b (h (omega arith))) in
    let same : (b ∷ p.0) ∷ p.1 ≡ first ∷ words = sym p.2 ∙ w in
    let head : first ≡ b ∷ p.0 = cc in
    ap starts_comment head ∙ e

pub kind_word : (line first : List ℕ) (words : List (List ℕ)) (opens : Bool) → (0 < length line → begins_word line ≡ true) → starts_comment line ≡ false → words_of line ≡ first ∷ words
    → opens_text first ≡ opens → cond opens Opens Single ≡ kind_of line
kind_word line first words opens h e w is =
    sym (ap kind_of_words w ∙ ap (λ c. cond c Skipped (cond (opens_text first) Opens Single)) (no_comment line first words h e w) ∙ ap (λ c. cond c Opens Single) is)

-- ---- the numbers of a line, and the levels of a word

-- these stand ahead of those, where there are any
abbrev pub ahead_of : {X : Type 0} → List X → Option (List X) → Option (List X)
ahead_of before None = None
ahead_of before (Some rest) = Some (before ++ rest)
