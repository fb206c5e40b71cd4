-- An operator compiled for a hardware page.
use Rattle.pld_ast.specs.declared.tree.Operator.{Operator}
use Rattle.pld_ast.specs.Resolve.{program_of}
use Rattle.image_form.specs.Spelling.{Form, Hard}
use Rattle.fsm_back.specs.Table.{gen_hard}

-- an operator, compiled: its table
abbrev pub hard_form : Operator → Form
hard_form op = Hard (gen_hard (program_of op))
