-- Words: identifiers, keywords and numbers.
use Rattle.std.specs.Prelude.{ℕ, suc, ◌+◌, ◌-◌, ◌*◌, ◌==◌, Bool, false, not, ◌||◌, ◌&&◌, nat_le, nat_lt, List, [], ◌∷◌, length, take, drop, slice_index_or, Option, Some, None, Ok, Err, if◌then◌else◌}
use Rattle.std.specs.List.{list_all}
use Rattle.std.specs.declared.result.Result.{Result}
use Rattle.pld_base.specs.Names.{is_digit, is_letter_or_digit, name_in}
use Rattle.pld_base.specs.declared.fault.FaultKind.{FaultKind}
use Rattle.pld_base.specs.declared.fault.FaultKind.TheVariants.{BadToken, LiteralTooLarge, TooLarge}
use Rattle.pld_base.specs.declared.fault.Limit.TheVariants as limit
use Rattle.pld_ast.specs.declared.tree.Ty.{Ty}
use Rattle.pld_ast.specs.declared.tree.Ty.TheVariants as ty
use Rattle.pld_lex.specs.declared.token.TokenKind.{TokenKind}
use Rattle.pld_lex.specs.declared.token.TokenKind.TheVariants.{Ident, Number}
use Rattle.pld_lex.specs.Marks.{keywords, spelled_as}

-- how many letters, digits and `_` a text begins with
abbrev pub word_length : List ℕ → ℕ
word_length [] = 0
word_length (b ∷ bytes) = if is_letter_or_digit b then suc (word_length bytes) else 0

-- the last byte is a `u` or `U`
abbrev pub has_suffix : List ℕ → Bool
has_suffix word = let last = slice_index_or word (length word - 1) 0 in last == 117 || last == 85

-- the word without that suffix
abbrev pub unsuffixed : List ℕ → List ℕ
unsuffixed word = if has_suffix word then take (length word - 1) word else word

abbrev pub is_hex_digit : ℕ → Bool
is_hex_digit b = is_digit b || (nat_le 65 b && nat_le b 70) || (nat_le 97 b && nat_le b 102)

-- `0x` or `0X`, and then one hexadecimal digit or more
abbrev pub is_hexadecimal : List ℕ → Bool
is_hexadecimal (z ∷ x ∷ d ∷ digits) = (z == 48) && (x == 120 || x == 88) && list_all is_hex_digit (d ∷ digits)
is_hexadecimal _ = false

-- `0`, or decimal digits that don't begin with 0
abbrev pub is_decimal : List ℕ → Bool
is_decimal [] = false
is_decimal (b ∷ []) = is_digit b
is_decimal (b ∷ c ∷ digits) = not (b == 48) && list_all is_digit (b ∷ c ∷ digits)

-- what a digit is worth: `0` is byte 48, `a` is 97, `A` is 65
abbrev pub digit_value : ℕ → ℕ
digit_value b = if nat_le b 57 then b - 48 else (if nat_le 97 b then b - 87 else b - 55)

-- the number that these digits make behind n
abbrev pub value_behind : ℕ → ℕ → List ℕ → ℕ
value_behind base n [] = n
value_behind base n (b ∷ digits) = value_behind base (n * base + digit_value b) digits

-- unsigned with a suffix, and from 2147483648 on
abbrev pub type_for : Bool → ℕ → Ty
type_for suffixed value = if suffixed || nat_lt 2147483647 value then ty.Uint else ty.Int

-- a number below 2^32
abbrev pub sized : Bool → ℕ → Result TokenKind FaultKind
sized suffixed value = if nat_lt value 4294967296 then Ok (Number value (type_for suffixed value)) else Err LiteralTooLarge

-- the number that is spelled so
abbrev pub number_of : List ℕ → Result TokenKind FaultKind
number_of word =
    let digits = unsuffixed word in
    if is_hexadecimal digits then sized (has_suffix word) (value_behind 16 0 (drop 2 digits))
    else (if is_decimal digits then sized (has_suffix word) (value_behind 10 0 digits) else Err BadToken)

-- an identifier has at most 32 bytes
abbrev pub ident_of : Option (List ℕ) → Result TokenKind FaultKind
ident_of (Some name) = Ok (Ident name)
ident_of None = Err (TooLarge limit.Ident)

-- a keyword, or else an identifier
abbrev pub keyword_or : Option TokenKind → List ℕ → Result TokenKind FaultKind
keyword_or (Some kind) word = Ok kind
keyword_or None word = ident_of (name_in word)

-- a word that begins with a letter
abbrev pub name_or_keyword : List ℕ → Result TokenKind FaultKind
name_or_keyword word = keyword_or (spelled_as keywords word) word
