use Rattle.std.proofs.Common.{◌≡◌, map, take}
use Rattle.rv_isa.specs.Spelling.{spelling}
use Rattle.rv_back.proofs.compile.words_of.Given as goal

abbrev pub invariant-loop-instr : goal.invariant-loop-instr
invariant-loop-instr l = l.words.items ≡ map spelling (take l.instr-index l.code)
