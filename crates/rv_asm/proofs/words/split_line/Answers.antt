use Rattle.std.proofs.Common.{arith}
use Rattle.rv_asm.proofs.Lining.{lines_cut, lines_whole}
use Rattle.rv_asm.proofs.words.split_line.Goals as goal

pub returns-then-end-text-clause-lines : goal.returns-then-end-text-clause-lines
returns-then-end-text-clause-lines c = lines_cut c.args.text.now c.place_of-end.result c.requires c.place_of-end.ensures.value

pub returns-else-end-text-clause-lines : goal.returns-else-end-text-clause-lines
returns-else-end-text-clause-lines c = lines_whole c.args.text.now c.place_of-end.result c.requires c.place_of-end.ensures.value (omega arith)
