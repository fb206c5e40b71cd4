-- Registers, numbers, addresses and targets, as words of a line.
use Rattle.std.specs.Prelude.{ℕ, ◌-◌, ◌==◌, Bool, false, not, ◌&&◌, nat_le, ℤ, pos, neg_ℤ, if◌then◌else◌, List, [], ◌∷◌, length, take, drop, slice_index, Option, Some, None, option_map}
use Rattle.std.specs.List.{list_all, before_first, after_first}
use Rattle.std.specs.Char.{is_digit}
use Rattle.std.specs.Str.Parse.{digits_value}
use Rattle.pld_base.specs.Names.{name_in}
use Rattle.rv_asm.specs.declared.written.Target.{Target}
use Rattle.rv_asm.specs.declared.written.Target.TheVariants.{Label, Offset}

-- one digit of the radix or more, and at most so many
abbrev pub is_numeral : (radix most : ℕ) → List ℕ → Bool
is_numeral radix most word = nat_le 1 (length word) && nat_le (length word) most && list_all (λ b. is_digit b radix) word

-- the value of such digits
abbrev pub numeral_in : (radix most : ℕ) → List ℕ → Option ℕ
numeral_in radix most word = if is_numeral radix most word then Some (digits_value radix word) else None

-- an x comes first
abbrev pub starts_x : List ℕ → Bool
starts_x [] = false
starts_x (b ∷ word) = b == 120

-- A number: `-` and 1 to 10 decimal digits, `0x` and 1 to 8 hexadecimal ones, or 1 to 10 decimal digits alone.
abbrev pub number_in : List ℕ → Option ℤ
number_in [] = None
number_in (b ∷ word) =
    if b == 45 then option_map (λ n. neg_ℤ (pos n)) (numeral_in 10 10 word)
    else if (b == 48) && starts_x word then option_map pos (numeral_in 16 8 (drop 1 word))
    else option_map pos (numeral_in 10 10 (b ∷ word))

-- a 0 with a digit behind it
abbrev pub has_leading_zero : List ℕ → Bool
has_leading_zero word = nat_le 2 (length word) && (slice_index word 0 == 48)

-- a number from 0 to 31
abbrev pub up_to_31 : ℕ → Option ℕ
up_to_31 n = if nat_le n 31 then Some n else None

abbrev pub register_number : List ℕ → Option ℕ
register_number word = if is_numeral 10 2 word && not (has_leading_zero word) then up_to_31 (digits_value 10 word) else None

-- a register: `x` and its number from 0 to 31, without a leading zero
abbrev pub register_in : List ℕ → Option ℕ
register_in [] = None
register_in (b ∷ word) = if b == 120 then register_number word else None

-- the word without its last byte, which is this one
abbrev pub ended : ℕ → List ℕ → Option (List ℕ)
ended b word =
    if nat_le 1 (length word) && (slice_index word (length word - 1) == b) then Some (take (length word - 1) word) else None

-- both, where both are there
abbrev pub of_both : {A B C : Type 0} → (A → B → C) → Option A → Option B → Option C
of_both make None b = None
of_both make (Some x) None = None
of_both make (Some x) (Some y) = Some (make x y)

abbrev pub register_before : ℕ → Option (List ℕ) → Option ℕ
register_before b None = None
register_before b (Some word) = register_in word

-- an address: a number and, between brackets, a register
abbrev pub address_in : List ℕ → Option (ℤ × ℕ)
address_in word = of_both (λ z r. (z, r)) (number_in (before_first (λ b. b == 40) word)) (register_before 41 (ended 41 (after_first (λ b. b == 40) word)))

-- a target: a label, an identifier of at most 32 bytes, or a number
abbrev pub target_by : Option (List ℕ) → Option ℤ → Option Target
target_by (Some name) number = Some (Label name)
target_by None number = option_map Offset number

abbrev pub target_in : List ℕ → Option Target
target_in word = target_by (name_in word) (number_in word)
