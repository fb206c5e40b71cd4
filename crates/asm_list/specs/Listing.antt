-- What the program prints of a text.
use Rattle.std.specs.Prelude.{ℕ, false, List, ◌++◌, codes, decimal, Result, Ok, Err}
use Rattle.std.specs.Fmt.{digits}
use Rattle.std.specs.List.{flat_map}
use Rattle.pld_base.specs.declared.fault.SourceFault.{SourceFault}
use Rattle.rv_asm.specs.Assembly.{Op, assembled}

-- a word in hexadecimal, without leading zeros
abbrev pub word_line : ℕ → List ℕ
word_line w = digits 16 false w ++ codes "\n"

-- the words of the operator that it spells, one a line, or the line of its first fault
abbrev pub said_of : Result Op SourceFault → List ℕ
said_of (Ok op) = flat_map word_line op.code
said_of (Err fault) = codes "fault in line " ++ decimal fault.line ++ codes "\n"

abbrev pub listing : List ℕ → List ℕ
listing text = said_of (assembled text)
