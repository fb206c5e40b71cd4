-- The tokens of a text, or its fault.
use Rattle.std.specs.Prelude.{ℕ, zero, suc, pred, ◌+◌, ◌==◌, Bool, false, ◌||◌, ◌&&◌, nat_lt, List, [], ◌∷◌, ◌++◌, length, take, slice_get, Option, Some, None, Ok, Err, if◌then◌else◌}
use Rattle.std.specs.declared.result.Result.{Result}
use Rattle.pld_base.specs.Names.{is_digit, is_letter}
use Rattle.pld_base.specs.declared.event.Place.{Place}
use Rattle.pld_base.specs.declared.fault.SourceFault.{SourceFault}
use Rattle.pld_base.specs.declared.fault.FaultKind.{FaultKind}
use Rattle.pld_base.specs.declared.fault.FaultKind.TheVariants.{BadToken, TooLarge}
use Rattle.pld_base.specs.declared.fault.Limit.TheVariants as limit
use Rattle.pld_base.specs.declared.memory.Refused.{Refused}
use Rattle.pld_base.specs.declared.memory.Refused.TheVariants.{Fault, NoMemory}
use Rattle.pld_lex.specs.declared.token.TokenKind.{TokenKind}
use Rattle.pld_lex.specs.declared.token.Token.{Token}
use Rattle.pld_lex.specs.declared.piece.Piece.{Piece}
use Rattle.pld_lex.specs.Marks.{mark_of}
use Rattle.pld_lex.specs.Words.{word_length, number_of, name_or_keyword}

-- spaces, tabs and line ends
abbrev pub is_blank : ℕ → Bool
is_blank b = b == 32 || b == 9 || b == 10

-- how many bytes stand before the next line end
abbrev pub line_length : List ℕ → ℕ
line_length [] = 0
line_length (b ∷ bytes) = if b == 10 then 0 else suc (line_length bytes)

abbrev pub one_more : Option ℕ → Option ℕ
one_more (Some n) = Some (suc n)
one_more None = None

-- how many bytes it takes until `*/` has come; `star` says whether the byte before is a `*`
abbrev pub closed_after : Bool → List ℕ → Option ℕ
closed_after star [] = None
closed_after star (b ∷ bytes) = if star && b == 47 then Some 1 else one_more (closed_after (b == 42) bytes)

-- bytes that separate tokens
abbrev pub gap : ℕ → Result Piece FaultKind
gap n = Ok (record { kind = None; length = n })

abbrev pub token : TokenKind → ℕ → Result Piece FaultKind
token kind n = Ok (record { kind = Some kind; length = n })

-- a comment behind its `/*`, if it is closed
abbrev pub comment : Option ℕ → Result Piece FaultKind
comment (Some n) = gap (2 + n)
comment None = Err BadToken

-- a token of n bytes, if these are well formed
abbrev pub token_if : ℕ → Result TokenKind FaultKind → Result Piece FaultKind
token_if n (Ok kind) = token kind n
token_if n (Err fault) = Err fault

abbrev pub mark_if : Option (TokenKind × ℕ) → Result Piece FaultKind
mark_if (Some m) = token m.0 m.1
mark_if None = Err BadToken

-- a comment, if the text begins with one
abbrev pub comment_of : List ℕ → Option (Result Piece FaultKind)
comment_of (a ∷ b ∷ bytes) =
    if a == 47 && b == 47 then Some (gap (2 + line_length bytes)) else
    (if a == 47 && b == 42 then Some (comment (closed_after false bytes)) else None)
comment_of _ = None

abbrev pub comment_or : Option (Result Piece FaultKind) → Result Piece FaultKind → Result Piece FaultKind
comment_or (Some piece) other = piece
comment_or None other = other

-- a number, a word, or a mark, each the longest
abbrev pub token_of : ℕ → List ℕ → Result Piece FaultKind
token_of first text =
    let n = word_length text in
    if is_digit first then token_if n (number_of (take n text)) else
    (if is_letter first then token_if n (name_or_keyword (take n text)) else mark_if (mark_of text))

-- what the text begins with: a separator, a token, or a fault
abbrev pub piece_of : List ℕ → Result Piece FaultKind
piece_of [] = gap 0
piece_of (b ∷ bytes) = if is_blank b then gap 1 else comment_or (comment_of (b ∷ bytes)) (token_of b (b ∷ bytes))

-- the place of the byte behind b
abbrev pub after : Place → ℕ → Place
after at b = if b == 10 then record { line = suc at.line; column = 1 } else record { line = at.line; column = suc at.column }

-- the place behind these bytes
abbrev pub place_after : Place → List ℕ → Place
place_after at [] = at
place_after at (b ∷ bytes) = place_after (after at b) bytes

abbrev pub first_place : Place
first_place = record { line = 1; column = 1 }

abbrev pub fault_at : FaultKind → Place → SourceFault
fault_at kind at = record { kind = kind; line = at.line; column = at.column }

-- tokens, or a fault
abbrev pub Found : Type 0
Found = Result (List Token) SourceFault

-- tokens in front of what follows
abbrev pub joined : List Token → Found → Found
joined front (Ok ts) = Ok (front ++ ts)
joined front (Err fault) = Err fault

-- the token of n bytes, if the piece is one
abbrev pub token_from : ℕ → Place → Option TokenKind → ℕ → List Token
token_from start at None n = []
token_from start at (Some kind) n = record { kind = kind; start = start; end = start + n; at = at } ∷ []

-- a piece, in front of what stands behind so many bytes
abbrev pub followed : ℕ → Place → Result Piece FaultKind → (ℕ → Found) → Found
followed start at (Err kind) behind = Err (fault_at kind at)
followed start at (Ok piece) behind = joined (token_from start at piece.kind piece.length) (behind piece.length)

-- the tokens of a text whose first bytes belong to the piece before; its first byte is number `start`, at this place
abbrev pub scan : ℕ → ℕ → Place → List ℕ → Found
scan skip start at [] = Ok []
scan (suc n) start at (b ∷ bytes) = scan n (suc start) (after at b) bytes
scan zero start at (b ∷ bytes) = followed start at (piece_of (b ∷ bytes)) (λ n. scan (pred n) (suc start) (after at b) bytes)

-- at most 4,096 tokens
abbrev pub few_of : Option Token → List Token → Found
few_of (Some t) ts = Err (fault_at (TooLarge limit.Tokens) t.at)
few_of None ts = Ok ts

abbrev pub few : Found → Found
few (Ok ts) = few_of (slice_get ts 4096) ts
few (Err fault) = Err fault

-- the tokens of a text, or its first fault
abbrev pub lexed : List ℕ → Found
lexed text = if nat_lt 65536 (length text) then Err (fault_at (TooLarge limit.Text) first_place) else few (scan 0 0 first_place text)

-- what is said of a fault; nothing is said of want of memory
abbrev pub IfFault : Refused SourceFault → (SourceFault → Type 0) → Type 0
IfFault (Fault fault) P = P fault
IfFault NoMemory P = Unit {0}
