use Rattle.image_form.specs.Spelling.{IsForm}
use Rattle.pld_ast.specs.Resolve.{program_of}
use Rattle.pld_build.proofs.Meanings.{of_form, same_ins, same_outs}
use Rattle.pld_build.proofs.laws.images_are_forms.Goals as goal

pub returns-clause-in_range : goal.returns-clause-in_range
returns-clause-in_range c = λ s sound. of_form IsForm s
    (c.words_keep_the_meaning.ensures.in_range (program_of s.operator) sound) (c.tables_are_in_range.ensures (program_of s.operator) sound)

pub returns-clause-ins : goal.returns-clause-ins
returns-clause-ins c = λ s. same_ins s

pub returns-clause-outs : goal.returns-clause-outs
returns-clause-outs c = λ s. same_outs s
