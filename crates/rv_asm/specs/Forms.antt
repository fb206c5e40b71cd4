-- The forms of a line.
use Rattle.std.specs.Prelude.{ℕ, ◌-◌, Bool, true, false, ◌&&◌, nat_le, if◌then◌else◌, List, [], ◌∷◌, codes, Option, Some, None, option_map}
use Rattle.std.specs.Option.{option_or}
use Rattle.std.specs.Str.{bytes_eq}
use Rattle.pld_base.specs.Names.{name_in}
use Rattle.rv_text.specs.Names.{upper_named, branch_named, address_named, store_named, shift_named, number_named, registers_named, bare_named}
use Rattle.rv_asm.specs.Numbers.{number_in, register_in, ended, of_both, address_in, target_in}
use Rattle.rv_asm.specs.Words.{words_of}
use Rattle.rv_asm.specs.declared.mnemonic.Mnemonic.{Mnemonic}
use Rattle.rv_asm.specs.declared.mnemonic.Mnemonic.TheVariants as m
use Rattle.rv_asm.specs.declared.written.Written.{Written}
use Rattle.rv_asm.specs.declared.written.Written.TheVariants as w
use Rattle.rv_asm.specs.declared.written.Line.{Line}
use Rattle.rv_asm.specs.declared.written.Line.TheVariants as line

-- `jal`
abbrev pub jump_named : List ℕ → Option Mnemonic
jump_named text = if bytes_eq text (codes "jal") then Some m.Jump else None

-- the mnemonics, in the order in which they are tried
abbrev pub last_named : List ℕ → Option Mnemonic
last_named text =
    option_or (option_map m.Number (number_named text)) (
    option_or (option_map m.Registers (registers_named text)) (
    option_map m.Bare (bare_named text)))

abbrev pub later_named : List ℕ → Option Mnemonic
later_named text =
    option_or (option_map m.Address (address_named text)) (
    option_or (option_map m.Store (store_named text)) (
    option_or (option_map m.Shift (shift_named text)) (
    last_named text)))

-- the mnemonic with this text
abbrev pub mnemonic_in : List ℕ → Option Mnemonic
mnemonic_in text =
    option_or (option_map m.Upper (upper_named text)) (
    option_or (jump_named text) (
    option_or (option_map m.Branch (branch_named text)) (
    later_named text)))

-- two operands, with a comma between them
abbrev pub two_in : List (List ℕ) → Option (List ℕ × List ℕ)
two_in (a ∷ c ∷ b ∷ []) = if bytes_eq c (codes ",") then Some (a, b) else None
two_in _ = None

abbrev pub onto_two : List ℕ → Option (List ℕ × List ℕ) → Option (List ℕ × List ℕ × List ℕ)
onto_two a None = None
onto_two a (Some o) = Some (a, o.0, o.1)

-- three operands, with commas between them
abbrev pub three_in : List (List ℕ) → Option (List ℕ × List ℕ × List ℕ)
three_in (a ∷ c ∷ words) = if bytes_eq c (codes ",") then onto_two a (two_in words) else None
three_in _ = None

-- all three, where all are there
abbrev pub of_three : {A B C D : Type 0} → (A → B → C → D) → Option A → Option B → Option C → Option D
of_three make None b c = None
of_three make (Some x) b c = of_both (make x) b c

-- what one reads of two operands, and of three
abbrev pub by_two : {A : Type 0} → (List ℕ → List ℕ → Option A) → Option (List ℕ × List ℕ) → Option A
by_two read None = None
by_two read (Some o) = read o.0 o.1

abbrev pub by_three : {A : Type 0} → (List ℕ → List ℕ → List ℕ → Option A) → Option (List ℕ × List ℕ × List ℕ) → Option A
by_three read None = None
by_three read (Some o) = read o.0 o.1 o.2

-- no operands
abbrev pub by_none : {A : Type 0} → A → List (List ℕ) → Option A
by_none x [] = Some x
by_none x (word ∷ words) = None

-- the instruction with this mnemonic and these operands
abbrev pub written_in : Mnemonic → List (List ℕ) → Option Written
written_in (m.Upper name) words = by_two (λ a b. of_both (w.Upper name) (register_in a) (number_in b)) (two_in words)
written_in m.Jump words = by_two (λ a b. of_both w.Jump (register_in a) (target_in b)) (two_in words)
written_in (m.Branch name) words = by_three (λ a b c. of_three (w.Branch name) (register_in a) (register_in b) (target_in c)) (three_in words)
written_in (m.Address name) words = by_two (λ a b. of_both (λ rd at. w.Address name rd at.1 at.0) (register_in a) (address_in b)) (two_in words)
written_in (m.Store name) words = by_two (λ a b. of_both (λ rs2 at. w.Store name at.1 rs2 at.0) (register_in a) (address_in b)) (two_in words)
written_in (m.Shift name) words = by_three (λ a b c. of_three (w.Shift name) (register_in a) (register_in b) (number_in c)) (three_in words)
written_in (m.Number name) words = by_three (λ a b c. of_three (w.Number name) (register_in a) (register_in b) (number_in c)) (three_in words)
written_in (m.Registers name) words = by_three (λ a b c. of_three (w.Registers name) (register_in a) (register_in b) (register_in c)) (three_in words)
written_in (m.Bare name) words = by_none (w.Bare name) words

abbrev pub name_by : Option (List ℕ) → Option (List ℕ)
name_by None = None
name_by (Some word) = name_in word

-- a label: an identifier of at most 32 bytes with a colon behind it, and nothing else
abbrev pub label_in : List ℕ → List (List ℕ) → Option Line
label_in word [] = option_map line.Label (name_by (ended 58 word))
label_in word (next ∷ words) = None

abbrev pub line_with : Option Mnemonic → List ℕ → List (List ℕ) → Option Line
line_with (Some mnemonic) word words = option_map line.Instruction (written_in mnemonic words)
line_with None word words = label_in word words

abbrev pub line_by : List (List ℕ) → Option Line
line_by [] = Some line.Empty
line_by (word ∷ words) = line_with (mnemonic_in word) word words

-- what a line behind that of the ports is, None where it has no form
abbrev pub line_in : List ℕ → Option Line
line_in bytes = line_by (words_of bytes)

-- a digit from 0 to 8
abbrev pub port_count : List ℕ → Option ℕ
port_count (b ∷ []) = if nat_le 48 b && nat_le b 56 then Some (b - 48) else None
port_count _ = None

-- the counts of the in-ports and of the out-ports
abbrev pub ports_by : List (List ℕ) → Option (ℕ × ℕ)
ports_by (word ∷ ins ∷ outs ∷ []) = if bytes_eq word (codes "ports") then of_both (λ i o. (i, o)) (port_count ins) (port_count outs) else None
ports_by _ = None

abbrev pub ports_in : List ℕ → Option (ℕ × ℕ)
ports_in bytes = ports_by (words_of bytes)

-- a line of blanks and a comment alone
abbrev pub has_no_word : List (List ℕ) → Bool
has_no_word [] = true
has_no_word (word ∷ words) = false

abbrev pub is_empty_line : List ℕ → Bool
is_empty_line bytes = has_no_word (words_of bytes)
