-- How keywords and marks are spelled.
use Rattle.std.specs.Prelude.{ℕ, Bool, List, [], ◌∷◌, length, take, Option, Some, None, codes, if◌then◌else◌}
use Rattle.std.specs.Str.{bytes_eq}
use Rattle.pld_lex.specs.declared.token.TokenKind.{TokenKind}
use Rattle.pld_lex.specs.declared.token.TokenKind.TheVariants.{Void, In, Out, Int, Uint, If, Else, While, For, Return, Read, Write, ShlAssign, ShrAssign, PlusAssign, MinusAssign, StarAssign, SlashAssign, PercentAssign, AndAssign, OrAssign, XorAssign, PlusPlus, MinusMinus, AndAnd, OrOr, EqualEqual, NotEqual, LessEqual, GreaterEqual, ShiftLeft, ShiftRight, Plus, Minus, Star, Slash, Percent, Ampersand, Bar, Hat, Tilde, Bang, Less, Greater, Assign, Open, Close, OpenBrace, CloseBrace, OpenBracket, CloseBracket, Comma, Semicolon}

abbrev pub keywords : List (List ℕ × TokenKind)
keywords =
    (codes "void", Void) ∷ (codes "in", In) ∷ (codes "out", Out) ∷ (codes "int32_t", Int) ∷ (codes "uint32_t", Uint)
    ∷ (codes "if", If) ∷ (codes "else", Else) ∷ (codes "while", While) ∷ (codes "for", For)
    ∷ (codes "return", Return) ∷ (codes "read", Read) ∷ (codes "write", Write) ∷ []

-- marks of three bytes
abbrev pub triple_marks : List (List ℕ × TokenKind)
triple_marks = (codes "<<=", ShlAssign) ∷ (codes ">>=", ShrAssign) ∷ []

-- marks of two bytes that assign nothing
abbrev pub other_double_marks : List (List ℕ × TokenKind)
other_double_marks = (codes "++", PlusPlus) ∷ (codes "--", MinusMinus) ∷ (codes "&&", AndAnd) ∷ (codes "||", OrOr) ∷ (codes "==", EqualEqual) ∷ (codes "!=", NotEqual) ∷ (codes "<=", LessEqual) ∷ (codes ">=", GreaterEqual) ∷ (codes "<<", ShiftLeft) ∷ (codes ">>", ShiftRight) ∷ []

-- marks of two bytes
abbrev pub double_marks : List (List ℕ × TokenKind)
double_marks = (codes "+=", PlusAssign) ∷ (codes "-=", MinusAssign) ∷ (codes "*=", StarAssign) ∷ (codes "/=", SlashAssign) ∷ (codes "%=", PercentAssign) ∷ (codes "&=", AndAssign) ∷ (codes "|=", OrAssign) ∷ (codes "^=", XorAssign) ∷ other_double_marks

-- marks of one byte that are neither arithmetic nor bitwise operators
abbrev pub other_single_marks : List (List ℕ × TokenKind)
other_single_marks = (codes "<", Less) ∷ (codes ">", Greater) ∷ (codes "=", Assign) ∷ (codes "(", Open) ∷ (codes ")", Close) ∷ (codes "{", OpenBrace) ∷ (codes "}", CloseBrace) ∷ (codes "[", OpenBracket) ∷ (codes "]", CloseBracket) ∷ (codes ",", Comma) ∷ (codes ";", Semicolon) ∷ []

-- marks of one byte
abbrev pub single_marks : List (List ℕ × TokenKind)
single_marks = (codes "+", Plus) ∷ (codes "-", Minus) ∷ (codes "*", Star) ∷ (codes "/", Slash) ∷ (codes "%", Percent) ∷ (codes "&", Ampersand) ∷ (codes "|", Bar) ∷ (codes "^", Hat) ∷ (codes "~", Tilde) ∷ (codes "!", Bang) ∷ other_single_marks

-- the keyword that is this word
abbrev pub spelled_as : List (List ℕ × TokenKind) → List ℕ → Option TokenKind
spelled_as [] word = None
spelled_as (entry ∷ more) word = if bytes_eq word entry.0 then Some entry.1 else spelled_as more word

-- the text begins with these bytes
abbrev pub begins : List ℕ → List ℕ → Bool
begins text mark = bytes_eq (take (length mark) text) mark

-- the first of these marks that the text begins with
abbrev pub mark_among : List (List ℕ × TokenKind) → List ℕ → Option (TokenKind × ℕ)
mark_among [] text = None
mark_among (entry ∷ more) text = if begins text entry.0 then Some (entry.1, length entry.0) else mark_among more text

abbrev pub or_else : {A : Type 0} → Option A → Option A → Option A
or_else (Some a) other = Some a
or_else None other = other

-- the longest mark that the text begins with
abbrev pub mark_of : List ℕ → Option (TokenKind × ℕ)
mark_of text = or_else (mark_among triple_marks text) (or_else (mark_among double_marks text) (mark_among single_marks text))
