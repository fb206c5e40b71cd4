-- The statements of a text.
use Rattle.std.specs.Prelude.{ℕ, ◌+◌, ◌<◌, ◌≤◌, ◌≡◌, ◌≢◌, ◌⊎◌, Bool, true, false, if◌then◌else◌, List, [], ◌∷◌, ◌++◌, length, take, drop, flat_map, slice_index, Option, Some, None}
use Rattle.pld_script.specs.Lines.{lines}
use Rattle.pld_script.specs.Grammar.{kind_of, closes_text, line_statement, text_statement}
use Rattle.pld_script.specs.declared.line.LineKind.{LineKind}
use Rattle.pld_script.specs.declared.line.LineKind.TheVariants.{Skipped, Opens, Single}
use Rattle.pld_script.specs.declared.statement.Statement.{Statement}
use Rattle.pld_script.specs.declared.next.Next.{Next}
use Rattle.pld_script.specs.declared.next.Next.TheVariants as next

-- a statement, or None for a bad line, with the number of its first line
pub record Placed : Type 0 where
  pub number : ℕ
  pub said : Option Statement

-- the bytes of a text's lines
abbrev pub text_of : List (List ℕ) → List ℕ
text_of text = flat_map (λ line. line ++ 10 ∷ []) text

-- The statements of these lines. `number` is that of the next statement's first line. The first list has the lines of a
-- statement that has begun, its first line and those of its text so far; it is empty where none has.
abbrev pub statements_from : Bool → ℕ → List (List ℕ) → List (List ℕ) → List Placed
statements_from ended number [] [] = []
statements_from ended number (head ∷ text) [] = if ended then record { number = number; said = None } ∷ [] else []
statements_from ended number [] (line ∷ lines) =
    elim (kind_of line) [
      | Skipped ↦ statements_from ended (number + 1) [] lines
      | Opens ↦ statements_from ended number (line ∷ []) lines
      | Single ↦ record { number = number; said = line_statement line } ∷ statements_from ended (number + 1) [] lines
    ]
statements_from ended number (head ∷ text) (line ∷ lines) =
    if closes_text line then record { number = number; said = text_statement head (text_of text) } ∷ statements_from ended (number + (2 + length text)) [] lines
    else statements_from ended number (head ∷ (text ++ line ∷ [])) lines

-- The statements of a text. `ended` says that nothing follows it.
abbrev pub statements : Bool → List ℕ → List Placed
statements ended bytes = statements_from ended 1 [] (lines ended bytes)

-- the statements of bytes whose first line has this number
abbrev pub statements_at : Bool → ℕ → List ℕ → List Placed
statements_at ended number bytes = statements_from ended number [] (lines ended bytes)

-- What may follow these bytes: nothing where they have ended.
pub record MayFollow (ended e : Bool) (more : List ℕ) : Type 0 where
  pub end : ended ≡ true → e ≡ true
  pub none : ended ≡ true → more ≡ []

-- no whole statement stands in these bytes
abbrev pub HoldsNone : Bool → List ℕ → Type 0
HoldsNone ended bytes = (number : ℕ) → statements_at ended number bytes ≡ []

-- a whole statement stands in these bytes
abbrev pub HoldsOne : List ℕ → Type 0
HoldsOne bytes = (number : ℕ) → statements_at false number bytes ≢ []

-- The first statement of these bytes, whatever follows: it has so many skipped lines before it and so many of its own, and uses so many bytes.
pub record IsFirst (ended : Bool) (bytes : List ℕ) (said : Option Statement) (blank own used : ℕ) : Type 0 where
  pub within : used ≤ length bytes
  pub some : 1 ≤ used
  pub counts : blank + own ≤ used
  -- so many lines are all lines of these bytes
  pub own_lines : blank + own ≡ length (lines true (take used bytes))
  -- no shorter front holds a whole statement
  pub least : (n : ℕ) → n < used → HoldsNone false (take n bytes)
  -- this one does, up to its line end, or it is all of a text that has ended
  pub whole : HoldsOne (take used bytes) ⊎ ((ended ≡ true) × (used ≡ length bytes))
  pub first : (number : ℕ) (e : Bool) (more : List ℕ) → MayFollow ended e more →
      statements_at e number (bytes ++ more) ≡ record { number = number + blank; said = said } ∷ statements_at e (number + blank + own) (drop used bytes ++ more)

-- The first statement of some bytes is told in one way.
abbrev pub FirstsAreOne : Type 0
FirstsAreOne = (ended : Bool) (bytes : List ℕ) (said said' : Option Statement) (blank own used blank' own' used' : ℕ)
    → IsFirst ended bytes said blank own used → IsFirst ended bytes said' blank' own' used' → (said ≡ said') × (blank ≡ blank') × (own ≡ own') × (used ≡ used')

-- What these bytes begin with: their first statement, or none that is whole.
abbrev pub IsNext : Bool → List ℕ → Next → Type 0
IsNext ended bytes (next.Statement found) = IsFirst ended bytes (Some found.statement) found.blank found.lines found.used
IsNext ended bytes (next.BadLine skipped) = IsFirst ended bytes None skipped.blank skipped.lines skipped.used
IsNext ended bytes next.More = (ended ≡ false) × HoldsNone false bytes
IsNext ended bytes next.End = (ended ≡ true) × HoldsNone true bytes

-- The first line of these bytes, whatever follows.
pub record IsLine (ended : Bool) (bytes line : List ℕ) (used : ℕ) : Type 0 where
  pub within : used ≤ length bytes
  pub some : 1 ≤ used
  pub first : (e : Bool) (more : List ℕ) → MayFollow ended e more → lines e (bytes ++ more) ≡ line ∷ lines e (drop used bytes ++ more)
  -- no shorter front holds a whole line
  pub least : (n : ℕ) → n < used → lines false (take n bytes) ≡ []
  -- this one does, or it is all of a text that has ended, and has no line end
  pub cut : ((e : Bool) (more : List ℕ) → lines e (take used bytes ++ more) ≡ line ∷ lines e more) ⊎ ((ended ≡ true) × (used ≡ length bytes) × (lines false bytes ≡ []))

-- A statement's text is open exactly where lines of it have begun.
abbrev pub IsOpen : Bool → List (List ℕ) → Type 0
IsOpen in_text [] = in_text ≡ false
IsOpen in_text (head ∷ text) = in_text ≡ true

-- How far a scan has come in these bytes: up to `line` stand whole lines that hold no whole statement, and from there up to `seen` no
-- line end. `begun` are the lines of the statement that has begun, and `skipped` is how many skipped lines stand before it.
pub record Scanned (bytes : List ℕ) (line seen : ℕ) (in_text : Bool) : Type 0 where
  pub in_order : line ≤ seen
  pub within : seen ≤ length bytes
  pub clean : (k : ℕ) → line ≤ k → k < seen → slice_index bytes k ≢ 10
  pub begun : List (List ℕ)
  pub skipped : ℕ
  pub is_open : IsOpen in_text begun
  pub same : (number : ℕ) (e : Bool) (more : List ℕ) →
      statements_at e number (take line bytes ++ more) ≡ statements_from e (number + skipped) begun (lines e more)

-- whether a line of this kind opens a text; None where it is a statement
abbrev pub after_kind : LineKind → Option Bool
after_kind Skipped = Some false
after_kind Opens = Some true
after_kind Single = None

-- whether a text is open behind this line; None where the line ends a statement
abbrev pub after_line : Bool → List ℕ → Option Bool
after_line true line = if closes_text line then None else Some true
after_line false line = after_kind (kind_of line)

-- A reader of these bytes has passed these lines, up to `at`, and no front up to there holds a whole statement.
pub record HasPassed (ended : Bool) (bytes : List ℕ) (blank : ℕ) (begun : List (List ℕ)) (at : ℕ) : Type 0 where
  pub passed : List (List ℕ)
  pub count : length passed ≡ blank + length begun
  pub all : lines true (take at bytes) ≡ passed
  pub cut : ((e : Bool) (more : List ℕ) → lines e (take at bytes ++ more) ≡ passed ++ lines e more) ⊎ ((ended ≡ true) × (at ≡ length bytes))
  pub walks : (number : ℕ) (e : Bool) (ls : List (List ℕ)) → statements_from e number [] (passed ++ ls) ≡ statements_from e (number + blank) begun ls
  pub least : (n : ℕ) → n ≤ at → HoldsNone false (take n bytes)

-- A reader of these bytes has come to `at`: it has passed so many skipped lines, and these lines of a statement.
pub record Reads (ended : Bool) (bytes : List ℕ) (blank : ℕ) (begun : List (List ℕ)) (at : ℕ) : Type 0 where
  pub within : at ≤ length bytes
  pub counts : blank + length begun ≤ at
  pub front : HasPassed ended bytes blank begun at
  pub same : (number : ℕ) (e : Bool) (more : List ℕ) → MayFollow ended e more →
      statements_at e number (bytes ++ more) ≡ statements_from e (number + blank) begun (lines e (drop at bytes ++ more))

-- how a statement, or a bad line, is told
abbrev pub next_of : Option Statement → ℕ → ℕ → ℕ → Next
next_of None blank own used = next.BadLine (record { blank = blank; lines = own; used = used })
next_of (Some statement) blank own used = next.Statement (record { statement = statement; blank = blank; lines = own; used = used })
