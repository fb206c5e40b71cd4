-- The words of a command line behind the program's name, each as its bytes.
use Rattle.std.specs.Prelude.{ℕ, ◌≤◌, ◌+◌, ◌-◌, ◌*◌, ◌==◌, ◌&&◌, nat_le, if◌then◌else◌, List, [], ◌∷◌, length, take, drop, Option, Some, None, codes}
use Rattle.std.specs.Str.{bytes_eq}
use Rattle.pld_words.specs.declared.arguments.Argument.{Argument}
use Rattle.pld_words.specs.declared.arguments.Argument.TheVariants.{Number, Rounds, Workers}
use Rattle.pld_words.specs.declared.arguments.Arguments.{Arguments}
use Rattle.pld_words.specs.declared.arguments.Arguments.TheVariants.{Nothing, One, Two}
use Rattle.pld_words.specs.declared.Command.{Command}
use Rattle.pld_words.specs.declared.Command.TheVariants.{Plain, Work, Big}

-- the value of a decimal digit
abbrev pub digit_of : ℕ → Option ℕ
digit_of b = if nat_le 48 b && nat_le b 57 then Some (b - 48) else None

-- the value of these digits behind others with the value n, None where a byte is no digit
abbrev pub number_from : ℕ → List ℕ → Option ℕ
number_from n [] = Some n
number_from n (b ∷ digits) = elim (digit_of b) [ None ↦ None | Some d ↦ number_from (10 * n + d) digits ]

-- the value of 1 to 7 decimal digits
abbrev pub number_of : List ℕ → Option ℕ
number_of word = if nat_le 1 (length word) && nat_le (length word) 7 then number_from 0 word else None

-- the number, if it is from 1 to `most`
abbrev pub at_most : ℕ → Option ℕ → Option ℕ
at_most most None = None
at_most most (Some n) = if nat_le 1 n && nat_le n most then Some n else None

-- The value of an option, by what stands behind its name in the same word: nothing, and the value is the next word, or `=` and the value.
-- With it come the words behind.
abbrev pub value_behind : List ℕ → List (List ℕ) → Option (List ℕ × List (List ℕ))
value_behind [] [] = None
value_behind [] (value ∷ words) = Some (value, words)
value_behind (b ∷ value) words = if b == 61 then Some (value, words) else None

-- the value of the option of this name, if it stands in front, and the words behind it
abbrev pub option_first : List ℕ → List (List ℕ) → Option (List ℕ × List (List ℕ))
option_first name [] = None
option_first name (word ∷ words) = if bytes_eq (take (length name) word) name then value_behind (drop (length name) word) words else None

-- an argument of this number and the words behind it, where there is such a number
abbrev pub with_words : (ℕ → Argument) → Option ℕ → List (List ℕ) → Option (Argument × List (List ℕ))
with_words make None words = None
with_words make (Some n) words = Some (make n, words)

-- the number from 1 to 60 that stands in front, and the words behind it
abbrev pub number_first : List (List ℕ) → Option (Argument × List (List ℕ))
number_first [] = None
number_first (word ∷ words) = with_words Number (at_most 60 (number_of word)) words

-- `--workers` with 1 to 8, or a number, that stands in front, and the words behind it
abbrev pub workers_first : List (List ℕ) → Option (Argument × List (List ℕ))
workers_first words =
    elim (option_first (codes "--workers") words) [
      | Some found ↦ with_words Workers (at_most 8 (number_of found.0)) found.1
      | None ↦ number_first words
    ]

-- the argument that stands in front, and the words behind it: `--rounds` with 1 to 1,000,000, `--workers` with 1 to 8, or a number
abbrev pub argument_first : List (List ℕ) → Option (Argument × List (List ℕ))
argument_first words =
    elim (option_first (codes "--rounds") words) [
      | Some found ↦ with_words Rounds (at_most 1000000 (number_of found.0)) found.1
      | None ↦ workers_first words
    ]

-- one argument, or two where more words stand behind the first; no command has three
abbrev pub with_second : Argument → Option (Argument × List (List ℕ)) → Option Arguments
with_second first None = None
with_second first (Some (second, [])) = Some (Two first second)
with_second first (Some (second, word ∷ words)) = None

abbrev pub with_more : Argument → List (List ℕ) → Option Arguments
with_more first [] = Some (One first)
with_more first (word ∷ words) = with_second first (argument_first (word ∷ words))

-- the arguments that these words say
abbrev pub arguments_of : List (List ℕ) → Option Arguments
arguments_of [] = Some Nothing
arguments_of (word ∷ words) = elim (argument_first (word ∷ words)) [ None ↦ None | Some found ↦ with_more found.0 found.1 ]

-- the rounds of a run, where no option says another number
abbrev pub default_rounds : ℕ
default_rounds = 100000

-- `plain`, or `plain` with `--rounds`
abbrev pub plain_of : Option Arguments → Option Command
plain_of (Some Nothing) = Some (Plain default_rounds)
plain_of (Some (One (Rounds n))) = Some (Plain n)
plain_of arguments = None

-- `work` with `--workers`, and `--rounds` behind it or before it
abbrev pub work_of : Option Arguments → Option Command
work_of (Some (One (Workers k))) = Some (Work k default_rounds)
work_of (Some (Two (Workers k) (Rounds n))) = Some (Work k n)
work_of (Some (Two (Rounds n) (Workers k))) = Some (Work k n)
work_of arguments = None

-- `big` with a number, and `--rounds` behind it or before it
abbrev pub big_of : Option Arguments → Option Command
big_of (Some (One (Number k))) = Some (Big k default_rounds)
big_of (Some (Two (Number k) (Rounds n))) = Some (Big k n)
big_of (Some (Two (Rounds n) (Number k))) = Some (Big k n)
big_of arguments = None

-- a number from 1 to `most`
abbrev pub IsUpTo : ℕ → ℕ → Type 0
IsUpTo most n = (1 ≤ n) × (n ≤ most)

-- an argument in its range
abbrev pub IsArgument : Argument → Type 0
IsArgument (Number k) = IsUpTo 60 k
IsArgument (Rounds n) = IsUpTo 1000000 n
IsArgument (Workers k) = IsUpTo 8 k

-- arguments in their ranges
abbrev pub AreArguments : Arguments → Type 0
AreArguments Nothing = Unit {0}
AreArguments (One a) = IsArgument a
AreArguments (Two a b) = IsArgument a × IsArgument b

-- a command with 1 to 1,000,000 rounds, 1 to 8 workers, and a number from 1 to 60
abbrev pub IsInRange : Command → Type 0
IsInRange (Plain rounds) = IsUpTo 1000000 rounds
IsInRange (Work workers rounds) = IsUpTo 8 workers × IsUpTo 1000000 rounds
IsInRange (Big number rounds) = IsUpTo 60 number × IsUpTo 1000000 rounds

-- The command that these words are, None where they are none.
abbrev pub command_of : List (List ℕ) → Option Command
command_of [] = None
command_of (name ∷ words) =
    if bytes_eq name (codes "plain") then plain_of (arguments_of words)
    else if bytes_eq name (codes "work") then work_of (arguments_of words)
    else if bytes_eq name (codes "big") then big_of (arguments_of words)
    else None
