use Rattle.rv_asm.proofs.Joining.{code_word}
use Rattle.rv_asm.proofs.coding.word_of.Goals as goal

pub returns-clause-code : goal.returns-clause-code
returns-clause-code c = code_word c.instr.result c.encode.result c.encode.ensures.word c.encode.ensures.ranges
