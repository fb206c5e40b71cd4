-- A text as tokens with separators between them.
use Rattle.std.specs.Prelude.{ℕ, ◌≡◌, ◌<◌, ◌≤◌, ◌-◌, true, false, List, [], ◌∷◌, ◌++◌, length, take, drop, Some, None, Ok}
use Rattle.pld_base.specs.Names.{name_in}
use Rattle.pld_lex.specs.declared.token.TokenKind.{TokenKind}
use Rattle.pld_lex.specs.declared.token.TokenKind.TheVariants.{Ident}
use Rattle.pld_lex.specs.declared.token.Token.{Token}
use Rattle.pld_lex.specs.Marks.{keywords, triple_marks, double_marks, single_marks, spelled_as}
use Rattle.pld_lex.specs.Words.{number_of}
use Rattle.pld_lex.specs.Lexed.{is_blank, line_length, closed_after, place_after, first_place}

-- bytes that spell a token of this kind
pub data IsSpelling : List ℕ → TokenKind → Type 0 where
  keyword : {s : List ℕ} {kind : TokenKind} → spelled_as keywords s ≡ Some kind → IsSpelling s kind
  triple : {s : List ℕ} {kind : TokenKind} → spelled_as triple_marks s ≡ Some kind → IsSpelling s kind
  double : {s : List ℕ} {kind : TokenKind} → spelled_as double_marks s ≡ Some kind → IsSpelling s kind
  single : {s : List ℕ} {kind : TokenKind} → spelled_as single_marks s ≡ Some kind → IsSpelling s kind
  number : {s : List ℕ} {kind : TokenKind} → number_of s ≡ Ok kind → IsSpelling s kind
  -- a name that is no keyword
  ident : {s name : List ℕ} → spelled_as keywords s ≡ None → name_in s ≡ Some name → IsSpelling s (Ident name)

-- a space, a tab, a line end, or a comment
pub data IsSeparator : List ℕ → Type 0 where
  blank : {b : ℕ} → is_blank b ≡ true → IsSeparator (b ∷ [])
  -- `//` and bytes without a line end
  line : {bytes : List ℕ} → line_length bytes ≡ length bytes → IsSeparator (47 ∷ 47 ∷ bytes)
  -- `/*` and bytes up to the first `*/`
  block : {bytes : List ℕ} → closed_after false bytes ≡ Some (length bytes) → IsSeparator (47 ∷ 42 ∷ bytes)

-- separators, one behind the other
pub data AreSeparators : List ℕ → Type 0 where
  none : AreSeparators []
  more : {front s : List ℕ} → AreSeparators front → IsSeparator s → AreSeparators (front ++ s)

-- the bytes from one number to just before the other
abbrev pub span : List ℕ → ℕ → ℕ → List ℕ
span text start end = take (end - start) (drop start text)

-- a token of this text, with nothing but separators between it and byte `from`
pub record Stands (text : List ℕ) (from : ℕ) (t : Token) : Type 0 where
  pub apart : from ≤ t.start
  pub between : AreSeparators (span text from t.start)
  pub some : t.start < t.end
  pub within : t.end ≤ length text
  pub spelled : IsSpelling (span text t.start t.end) t.kind
  pub at : t.at ≡ place_after first_place (take t.start text)

-- the text from byte `from` on is these tokens, in order, with separators between them
abbrev pub Reads : List ℕ → ℕ → List Token → Type 0
Reads text from [] = AreSeparators (drop from text)
Reads text from (t ∷ ts) = Stands text from t × Reads text t.end ts
