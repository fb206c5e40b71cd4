-- Numbers, as words of a line.
use Rattle.std.specs.Prelude.{ℕ, ◌+◌, ◌-◌, ◌*◌, ◌^◌, Bool, false, ◌==◌, ◌&&◌, nat_le, nat_lt, if◌then◌else◌, List, [], ◌∷◌, length, drop, min, Option, Some, None}
use Rattle.pld_base.specs.Words.{negated}

-- the number, if it is below the base
abbrev pub below : ℕ → ℕ → Option ℕ
below base d = if nat_lt d base then Some d else None

-- the value of a digit below the base: 0 to 9, and from 10 on the letters from `a`, of either case
abbrev pub digit_in : ℕ → ℕ → Option ℕ
digit_in base b =
    if nat_le 48 b && nat_le b 57 then below base (b - 48)
    else if nat_le 97 b && nat_le b 102 then below base (b - 87)
    else if nat_le 65 b && nat_le b 70 then below base (b - 55)
    else None

-- the value of these digits behind others with the value n, None where one is no digit
abbrev pub number_from : ℕ → ℕ → List ℕ → Option ℕ
number_from base n [] = Some n
number_from base n (b ∷ digits) = elim (digit_in base b) [ None ↦ None | Some d ↦ number_from base (base * n + d) digits ]

-- the value of these digits, None where there is none, or one is no digit
abbrev pub number_in : ℕ → List ℕ → Option ℕ
number_in base [] = None
number_in base (b ∷ digits) = number_from base 0 (b ∷ digits)

-- the value, or 2^32 where it is larger
abbrev pub capped : Option ℕ → Option ℕ
capped None = None
capped (Some n) = Some (min n (2 ^ 32))

-- a value below 2^32
abbrev pub unsigned_of : Option ℕ → Option ℕ
unsigned_of None = None
unsigned_of (Some n) = if nat_lt n (2 ^ 32) then Some n else None

-- a value up to 2^31 with a sign, modulo 2^32
abbrev pub negative_of : Option ℕ → Option ℕ
negative_of None = None
negative_of (Some n) = if nat_le n (2 ^ 31) then Some (negated n) else None

-- the value of one to three decimal digits
abbrev pub short_number_in : List ℕ → Option ℕ
short_number_in word = if nat_le (length word) 3 then number_in 10 word else None

-- the depth of a tree: 1 to 6
abbrev pub depth_in : ℕ → Option ℕ
depth_in n = if nat_le 1 n && nat_le n 6 then Some n else None

-- the window of a channel: 1 to 64 words
abbrev pub window_of : ℕ → Option ℕ
window_of n = if nat_le 1 n && nat_le n 64 then Some n else None

-- one to eight hexadecimal digits, whose value is below 2^32
abbrev pub hexadecimal_in : List ℕ → Option ℕ
hexadecimal_in digits = if nat_le (length digits) 8 then unsigned_of (number_in 16 digits) else None

-- an x comes first
abbrev pub starts_x : List ℕ → Bool
starts_x [] = false
starts_x (b ∷ word) = b == 120

-- The value of a number: `-` and decimal digits, `0x` and hexadecimal ones, or decimal ones alone.
abbrev pub word_in : List ℕ → Option ℕ
word_in [] = None
word_in (b ∷ word) =
    if b == 45 then negative_of (number_in 10 word)
    else if (b == 48) && starts_x word then hexadecimal_in (drop 1 word)
    else unsigned_of (number_in 10 (b ∷ word))
