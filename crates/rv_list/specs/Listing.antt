-- What the program prints: a line for each line of its input.
use Rattle.std.specs.Prelude.{ℕ, List, ◌++◌, codes, map, flat_map, Option, Some, None, Result, Ok, Err}
use Rattle.std.specs.Int.{w32, from_be_bytes}
use Rattle.hex.specs.Hex.{decode_sized}
use Rattle.hex.specs.declared.error.FromHexError.{FromHexError}
use Rattle.bstr.specs.Text.{lines_of, without_terminator}
use Rattle.rv_isa.specs.Reading.{decoded}
use Rattle.rv_isa.specs.declared.instr.Instr.{Instr}
use Rattle.rv_text.specs.Texts.{text_of}
use Rattle.rv_text.specs.declared.text.Style.TheVariants.{Dump}
use Rattle.rv_list.specs.declared.line.Line.{Line}
use Rattle.rv_list.specs.declared.line.Line.TheVariants.{Instruction, OtherWord, NoWord}

-- the word of four bytes, the highest first
abbrev pub word_of : Result (List ℕ) FromHexError → Option ℕ
word_of (Ok bytes) = Some (from_be_bytes w32 bytes)
word_of (Err e) = None

-- the word that a line spells by 8 hexadecimal digits and nothing else
abbrev pub word_in : List ℕ → Option ℕ
word_in line = word_of (decode_sized line 4)

abbrev pub line_with : Option Instr → Line
line_with (Some i) = Instruction i
line_with None = OtherWord

abbrev pub line_by : Option ℕ → Line
line_by (Some w) = line_with (decoded w)
line_by None = NoWord

-- what a line of the input is
abbrev pub line_in : List ℕ → Line
line_in line = line_by (word_in line)

-- what is printed of it
abbrev pub shown : Line → List ℕ
shown (Instruction i) = text_of Dump i
shown OtherWord = codes "-"
shown NoWord = codes "?"

-- the answer to a line, with its line feed
abbrev pub answer : List ℕ → List ℕ
answer line = shown (line_in line) ++ codes "\n"

-- the answers to the lines of a text
abbrev pub listing : List ℕ → List ℕ
listing text = flat_map answer (map without_terminator (lines_of text))
