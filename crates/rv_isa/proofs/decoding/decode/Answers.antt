use Rattle.std.proofs.Common.{◌≡◌, Some, ap, sym, ◌∙◌}
use Rattle.std.specs.Prelude.{Option, None, IsNone}
use Rattle.rv_isa.specs.Reading.{decoded}
use Rattle.rv_isa.proofs.Spelled.{spelled}
use Rattle.rv_isa.specs.declared.instr.Instr.{Instr}
use Rattle.rv_isa.proofs.decoding.decode.Goals as goal

pub returns-clause-found : goal.returns-clause-found
returns-clause-found c = λ i h e. c.by_opcode.ensures.same ∙ ap decoded (sym e) ∙ spelled i h

not_some : (o : Option Instr) (i : Instr) → IsNone o → o ≡ Some i → ⊥
not_some None i h e = cc
not_some (Some j) i h e = cc

pub returns-clause-none : goal.returns-clause-none
returns-clause-none c = λ h i range e. not_some c.by_opcode.result i h (c.by_opcode.ensures.same ∙ ap decoded (sym e) ∙ spelled i range)
