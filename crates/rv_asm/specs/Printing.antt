-- An operator as a text.
use Rattle.std.specs.Prelude.{◌≡◌, ℕ, List, [], ◌++◌, codes, decimal, Option, Some, None}
use Rattle.std.specs.List.{flat_map}
use Rattle.rv_isa.specs.Reading.{decoded}
use Rattle.rv_isa.specs.Spelling.{spelling, IsInstr}
use Rattle.rv_isa.specs.declared.instr.Instr.{Instr}
use Rattle.rv_text.specs.Texts.{text_of}
use Rattle.rv_text.specs.declared.text.Style.TheVariants.{Source}
use Rattle.rv_asm.specs.Assembly.{Op}

abbrev pub shown_instr : Option Instr → List ℕ
shown_instr (Some i) = text_of Source i
shown_instr None = []

-- the line of a word, with its line end
abbrev pub word_line : ℕ → List ℕ
word_line w = shown_instr (decoded w) ++ codes "\n"

-- the line of the ports, with its line end
abbrev pub ports_line : (ins outs : ℕ) → List ℕ
ports_line ins outs = codes "ports " ++ decimal ins ++ codes " " ++ decimal outs ++ codes "\n"

-- the line of the ports, and a line for each word
abbrev pub printed : Op → List ℕ
printed op = ports_line op.ins op.outs ++ flat_map word_line op.code

-- the word is that of an instruction, which is in its ranges
pub record IsSpelled (w : ℕ) : Type 0 where
  pub instr : Instr
  pub read : decoded w ≡ Some instr
  pub ranges : IsInstr instr
  pub word : spelling instr ≡ w
