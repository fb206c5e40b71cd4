use Rattle.rv_asm.proofs.Whole.{spelled_told}
use Rattle.rv_asm.proofs.laws.spelled.Goals as goal

pub returns : goal.returns
returns c = spelled_told c.args.word c.decode-instr.result c.decode-instr.ensures.value c.decode-instr.ensures.word c.decode-instr.ensures.ranges c.requires
